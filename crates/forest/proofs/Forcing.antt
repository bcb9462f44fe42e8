-- Forced splits. The rule is: where the partner's parent is not split, force that one first; then split the triangle and its partner. Every closed set that has S and the
-- triangle has the partner, its parent, and so all that is forced. The numbers fall, since the partner's parent is below the triangle.
use Rattle.std.proofs.Common.{◌≡◌, ℕ, zero, suc, ◌*◌, ◌/◌, ◌^◌, ◌<◌, ◌≤◌, true, false, ◌&&◌, ◌||◌, ltb, ◌⊎◌, sym, refl, ap, ◌∙◌, subst, inl, inr, arith}
use Rattle.std.specs.Cmp.{both_ways as same_test}
use mathlib.Core.Path.{fun_ext}
use Rattle.std.proofs.lemmas.Bool.{cases_Bool, cases_lt, and_parts, and_from, or_cases, or_left, or_right, ltb-true, lt-ltb}
use Rattle.forest.specs.Forests.{Forest, Lawful}
use Rattle.forest.specs.SplitSets.{Set, Subset, Closed, Ready, Forced, add}
use Rattle.forest.proofs.Members.{add_same, add_keeps, add_cases, add_within}
use Rattle.forest.proofs.Levels.{far}

-- a closed set with i and its partner p, or with i alone where it has none, is closed; p is i itself in the second case
pairs_closed : {φ : Forest} (S : Set) → Closed φ S → (i p : ℕ) → Ready φ S i → Ready φ S p → (0 < φ.partner i → φ.partner i ≡ p) → (0 < φ.partner p → φ.partner p ≡ i) → Closed φ (add i (add p S))
pairs_closed {φ} S c i p r q e f = record {
  range = λ x t. range x (cases x t);
  up = λ x t l. up x l (cases x t);
  across = λ x t l. across x l (cases x t);
}
  where
    keeps : Subset S (add i (add p S))
    keeps x s = add_keeps i (add p S) x (add_keeps p S x s)

    cases : (x : ℕ) → add i (add p S) x ≡ true → (x ≡ i) ⊎ ((x ≡ p) ⊎ (S x ≡ true))
    cases x t = go (add_cases i (add p S) x t)
      where
        go : (x ≡ i) ⊎ (add p S x ≡ true) → (x ≡ i) ⊎ ((x ≡ p) ⊎ (S x ≡ true))
        go (inl h) = inl h
        go (inr h) = inr (add_cases p S x h)

    range : (x : ℕ) → (x ≡ i) ⊎ ((x ≡ p) ⊎ (S x ≡ true)) → (φ.roots ≤ x) × (x < φ.finest)
    range x (inl h) = rw h r.range
    range x (inr (inl h)) = rw h q.range
    range x (inr (inr s)) = c.range x s

    up : (x : ℕ) → 2 * φ.roots ≤ x → (x ≡ i) ⊎ ((x ≡ p) ⊎ (S x ≡ true)) → add i (add p S) (x / 2) ≡ true
    up x l (inl h) = keeps (x / 2) (rw h (r.above (rw h at l)))
    up x l (inr (inl h)) = keeps (x / 2) (rw h (q.above (rw h at l)))
    up x l (inr (inr s)) = keeps (x / 2) (c.up x s l)

    across : (x : ℕ) → 0 < φ.partner x → (x ≡ i) ⊎ ((x ≡ p) ⊎ (S x ≡ true)) → add i (add p S) (φ.partner x) ≡ true
    across x l (inl h) =
        let k : φ.partner x ≡ p = ap φ.partner h ∙ e (subst (λ (y : ℕ). 0 < φ.partner y) h l) in
        rw k (add_keeps i (add p S) p (add_same p S))
    across x l (inr (inl h)) =
        let k : φ.partner x ≡ i = ap φ.partner h ∙ f (subst (λ (y : ℕ). 0 < φ.partner y) h l) in
        rw k (add_same i (add p S))
    across x l (inr (inr s)) = keeps (φ.partner x) (c.across x s l)

-- the parent of the partner may be split next where the triangle may
pub parent_ready : {φ : Forest} → Lawful φ → (S : Set) → Closed φ S → (i : ℕ) → Ready φ S i → 0 < φ.partner i → 2 * φ.roots ≤ φ.partner i → Ready φ S (φ.partner i / 2)
parent_ready {φ} m S c i r p l = record {
  range = (omega arith, omega (arith, m.inside i r.range.0 r.range.1 p));
  above = λ k.
      let pos : 0 < φ.roots = m.some in
      let e : 4 * φ.roots ≤ i = deep k (cases_lt i (4 * φ.roots)) in
      let a : S (i / 2) ≡ true = r.above (omega arith) in
      let b : S (i / 2 / 2) ≡ true = c.up (i / 2) a (omega arith) in
      let d : S (i / 4) ≡ true = subst (λ (y : ℕ). S y ≡ true) (quarter i) b in
      subst (λ (y : ℕ). S y ≡ true) (sym (quarter (φ.partner i))) (go d (m.meet i e r.range.1 p));
}
  where
    quarter : (y : ℕ) → y / 2 / 2 ≡ y / 4
    quarter y = omega arith

    deep : 2 * φ.roots ≤ φ.partner i / 2 → (i < 4 * φ.roots) ⊎ (4 * φ.roots ≤ i) → 4 * φ.roots ≤ i
    deep k (inr h) = h
    deep k (inl h) = absurd (omega (arith, m.level i 2 r.range.0 r.range.1 p (omega arith)))

    go : S (i / 4) ≡ true → (φ.partner i / 4 ≡ i / 4) ⊎ ((0 < φ.partner (i / 4)) × (φ.partner i / 4 ≡ φ.partner (i / 4))) → S (φ.partner i / 4) ≡ true
    go d (inl h) = rw h d
    go d (inr h) = rw h.1 (c.across (i / 4) d h.0)

-- what stands before i and its partner are split: T has S and the parent of the partner, and no more than it must
pub record Before (φ : Forest) (S : Set) (i : ℕ) (T : Set) : Type 0 where
  pub closed : Closed φ T
  pub keeps : Subset S T
  pub parent : 0 < φ.partner i → 2 * φ.roots ≤ φ.partner i → T (φ.partner i / 2) ≡ true
  pub least : (G : Set) → Closed φ G → Subset S G → G i ≡ true → Subset T G

-- S itself, where the partner has its parent split, and where there is no partner
pub before_same : {φ : Forest} (S : Set) → Closed φ S → (i : ℕ) → (0 < φ.partner i → 2 * φ.roots ≤ φ.partner i → S (φ.partner i / 2) ≡ true) → Before φ S i S
before_same S c i h = record { closed = c; keeps = λ x s. s; parent = h; least = λ G cG w g. w }

-- a forced split of the partner's parent
pub before_forced : {φ : Forest} (S T : Set) (i : ℕ) → 0 < φ.partner i → 2 * φ.roots ≤ φ.partner i → Forced φ S (φ.partner i / 2) T → Before φ S i T
before_forced {φ} S T i pos l f = record {
  closed = f.closed;
  keeps = f.keeps;
  parent = λ _ _. f.has;
  least = λ G cG w g. f.least G cG w (cG.up (φ.partner i) (cG.across i g pos) l);
}

-- the last step, with no partner and with one
pub alone : {φ : Forest} (S T : Set) (i : ℕ) → Ready φ S i → φ.partner i ≡ 0 → Before φ S i T → Forced φ S i (add i T)
alone {φ} S T i r e q = record {
  closed = subst (Closed φ) twice (pairs_closed T q.closed i i ready ready none none);
  keeps = λ x s. add_keeps i T x (q.keeps x s);
  has = add_same i T;
  least = λ G cG w gi. add_within i T G (q.least G cG w gi) gi;
}
  where
    ready : Ready φ T i
    ready = record { range = r.range; above = λ l. q.keeps (i / 2) (r.above l) }

    none : 0 < φ.partner i → φ.partner i ≡ i
    none p = absurd (omega arith)

    twice : add i (add i T) ≡ add i T
    twice = fun_ext (λ x. same_test _ _ (λ t. add_within i (add i T) (add i T) (λ y s. s) (add_same i T) x t) (λ t. add_keeps i (add i T) x t))

pub paired : {φ : Forest} → Lawful φ → (S T : Set) (i : ℕ) → Ready φ S i → 0 < φ.partner i → Before φ S i T → Forced φ S i (add i (add (φ.partner i) T))
paired {φ} m S T i r pos q = record {
  closed = pairs_closed T q.closed i (φ.partner i)
      (record { range = r.range; above = λ l. q.keeps (i / 2) (r.above l) })
      (record { range = m.inside i r.range.0 r.range.1 pos; above = q.parent pos })
      (λ _. refl) (λ _. m.back i r.range.0 r.range.1 pos);
  keeps = λ x s. add_keeps i (add (φ.partner i) T) x (add_keeps (φ.partner i) T x (q.keeps x s));
  has = add_same i (add (φ.partner i) T);
  least = λ G cG w gi. add_within i (add (φ.partner i) T) G (add_within (φ.partner i) T G (q.least G cG w gi) (cG.across i gi pos)) gi;
}

-- there is a forced split; k bounds the depth
forced_at : {φ : Forest} → Lawful φ → (k : ℕ) (S : Set) (i : ℕ) → i < k → Closed φ S → Ready φ S i → (F : Set) × Forced φ S i F
forced_at m zero S i h c r = absurd (omega arith)
forced_at {φ} m (suc k) S i h c r =
    go (cases_lt 0 (φ.partner i)) (cases_lt (φ.partner i) (2 * φ.roots)) (cases_Bool (S (φ.partner i / 2))) (forced_at m k S (φ.partner i / 2))
  where
    go : (0 < φ.partner i) ⊎ (φ.partner i ≤ 0) → (φ.partner i < 2 * φ.roots) ⊎ (2 * φ.roots ≤ φ.partner i) → (S (φ.partner i / 2) ≡ true) ⊎ (S (φ.partner i / 2) ≡ false) →
        (φ.partner i / 2 < k → Closed φ S → Ready φ S (φ.partner i / 2) → (F : Set) × Forced φ S (φ.partner i / 2) F) → (F : Set) × Forced φ S i F
    go (inr z) a b ih = (add i S, alone S S i r (omega arith) (before_same S c i (λ p. absurd (omega arith))))
    go (inl p) (inl a) b ih = (add i (add (φ.partner i) S), paired m S S i r p (before_same S c i (λ _ l. absurd (omega arith))))
    go (inl p) (inr a) (inl b) ih = (add i (add (φ.partner i) S), paired m S S i r p (before_same S c i (λ _ _. b)))
    go (inl p) (inr a) (inr b) ih =
        let z = ih (omega (arith, far m i r.range.0 r.range.1 p)) c (parent_ready m S c i r p a) in
        (add i (add (φ.partner i) z.0), paired m S z.0 i r p (before_forced S z.0 i p a z.1))

pub forced : {φ : Forest} → Lawful φ → (S : Set) (i : ℕ) → Closed φ S → Ready φ S i → (F : Set) × Forced φ S i F
forced m S i = forced_at m (suc i) S i (omega arith)

-- and only one
pub forced_same : {φ : Forest} (S F G : Set) (i : ℕ) → Forced φ S i F → Forced φ S i G → F ≡ G
forced_same S F G i f g = fun_ext (λ x. same_test (F x) (G x) (f.least G g.closed g.keeps g.has x) (g.least F f.closed f.keeps f.has x))

-- a forced split adds nothing past the level of what it splits: what it has above that level, with S, is closed
pub shallow : {φ : Forest} → Lawful φ → (S F : Set) (i k : ℕ) → Closed φ S → Forced φ S i F → i < φ.roots * 2 ^ k → (x : ℕ) → F x ≡ true → (S x ≡ true) ⊎ (x < φ.roots * 2 ^ k)
shallow {φ} m S F i k c f h x y = parts x (f.least G closed (λ z s. or_left (S z) _ s) (or_right (S i) _ (and_from _ _ f.has (lt-ltb i bound h))) x y)
  where
    bound : ℕ
    bound = φ.roots * 2 ^ k

    G : Set
    G z = S z || (F z && ltb z bound)

    parts : (z : ℕ) → G z ≡ true → (S z ≡ true) ⊎ (z < bound)
    parts z g = go (or_cases (S z) _ g)
      where
        go : (S z ≡ true) ⊎ ((F z && ltb z bound) ≡ true) → (S z ≡ true) ⊎ (z < bound)
        go (inl s) = inl s
        go (inr s) = inr (ltb-true z bound (and_parts (F z) _ s).1)

    new : (z : ℕ) → F z ≡ true → z < bound → G z ≡ true
    new z a b = or_right (S z) _ (and_from (F z) _ a (lt-ltb z bound b))

    in_f : (z : ℕ) → G z ≡ true → F z ≡ true
    in_f z g = go (or_cases (S z) _ g)
      where
        go : (S z ≡ true) ⊎ ((F z && ltb z bound) ≡ true) → F z ≡ true
        go (inl s) = f.keeps z s
        go (inr s) = (and_parts (F z) _ s).0

    closed : Closed φ G
    closed = record {
      range = λ z g. f.closed.range z (in_f z g);
      up = λ z g l. up z l (in_f z g) (parts z g);
      across = λ z g p. across z p (in_f z g) (parts z g);
    }
      where
        up : (z : ℕ) → 2 * φ.roots ≤ z → F z ≡ true → (S z ≡ true) ⊎ (z < bound) → G (z / 2) ≡ true
        up z l a (inl s) = or_left _ _ (c.up z s l)
        up z l a (inr b) = new (z / 2) (f.closed.up z a l) (omega arith)

        across : (z : ℕ) → 0 < φ.partner z → F z ≡ true → (S z ≡ true) ⊎ (z < bound) → G (φ.partner z) ≡ true
        across z p a (inl s) = or_left _ _ (c.across z s p)
        across z p a (inr b) =
            let r = f.closed.range z a in
            new (φ.partner z) (f.closed.across z a p) (m.level z k r.0 r.1 p b)
