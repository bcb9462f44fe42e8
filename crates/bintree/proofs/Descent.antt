-- The recursions of the code go from triangle i to its parent i / 2: corners and neighbours of a half from those of the parent.
use Rattle.std.proofs.Common.{◌≡◌, ℕ, zero, suc, ◌+◌, ◌-◌, ◌*◌, ◌/◌, ◌%◌, ◌<◌, ◌≤◌, Bool, true, false, eqb, ltb, ◌⊎◌, sym, refl, ap, ◌∙◌, subst, inl, inr, arith, Some, None, Option}
use Rattle.std.specs.Option.{option_map, unwrap_or}
use Rattle.std.proofs.lemmas.Bool.{cases_lt, and_from, le-leb, lt-ltb, le-ltb, eq-eqb, ne_eqb}
use Rattle.std.proofs.lemmas.Option.{none-some, same_Some}
use Rattle.bintree.specs.declared.triangle.neighbours.Neighbours.{Neighbours}
use Rattle.bintree.specs.Orders.{side, end, is_triangle}
use Rattle.bintree.specs.Triangles.{root_two, root_three, corners, partners, partner}
use Rattle.bintree.specs.Neighbours.{around_root, low_of, high_of, around_half, neighbours_at, neighbours}
use Rattle.bintree.proofs.Tree.{Node, two, three, lo, hi, num}
use Rattle.bintree.proofs.Around.{lo?, hi?, around}
use Rattle.bintree.proofs.Numbers.{node, num_node, num_from_two}
use Rattle.bintree.proofs.Partners.{partner_is, partners_true, partner_laws}

-- corners
pub corners_two : (n s i : ℕ) → i ≡ 2 → s ≡ side n → root_two s ≡ corners n i
unfolding corners
corners_two n s i e f = ap root_two f ∙ sym (ap (corners n) e)

pub corners_three : (n s i : ℕ) → i ≡ 3 → s ≡ side n → root_three s ≡ corners n i
unfolding corners
corners_three n s i e f = ap root_three f ∙ sym (ap (corners n) e)

-- one step of the recursion
abbrev pick : Bool → ℕ → Neighbours → Neighbours
pick b i up = elim b [ true ↦ around_root i | false ↦ around_half (eqb (i % 2) 0) i up ]

pick_root : (i : ℕ) (up : Neighbours) → i < 4 → pick (ltb i 4) i up ≡ around_root i
pick_root i up h = ap (λ (b : Bool). pick b i up) (lt-ltb i 4 h)

pick_half : (i : ℕ) (up : Neighbours) → 4 ≤ i → pick (ltb i 4) i up ≡ around_half (eqb (i % 2) 0) i up
pick_half i up h = ap (λ (b : Bool). pick b i up) (le-ltb i 4 h)

-- the bound on the depth does not matter
fuel : (k l i : ℕ) → i ≤ k → i ≤ l → neighbours_at k i ≡ neighbours_at l i
fuel zero zero i h g = refl
fuel zero (suc l) i h g = let e : i ≡ 0 = omega arith in rw e refl
fuel (suc k) zero i h g = let e : i ≡ 0 = omega arith in rw e refl
fuel (suc k) (suc l) i h g = go (cases_lt i 4) (fuel k l (i / 2))
  where
    go : (i < 4) ⊎ (4 ≤ i) → (i / 2 ≤ k → i / 2 ≤ l → neighbours_at k (i / 2) ≡ neighbours_at l (i / 2)) → neighbours_at (suc k) i ≡ neighbours_at (suc l) i
    go (inl s) ih = pick_root i _ s ∙ sym (pick_root i _ s)
    go (inr b) ih = ap (pick (ltb i 4) i) (ih (omega arith) (omega arith))

pub neighbours_root : (i : ℕ) → 2 ≤ i → i < 4 → around_root i ≡ neighbours i
unfolding neighbours
neighbours_root zero p q = absurd (omega arith)
neighbours_root (suc i) p q = sym (pick_root (suc i) _ q)

pub neighbours_half : (i : ℕ) → 4 ≤ i → neighbours i ≡ around_half (eqb (i % 2) 0) i (neighbours (i / 2))
unfolding neighbours
neighbours_half zero h = absurd (omega arith)
neighbours_half (suc k) h = pick_half (suc k) _ h ∙ ap (around_half (eqb (suc k % 2) 0) (suc k)) (fuel k (suc k / 2) (suc k / 2) (omega arith) (omega arith))

pub neighbours_even : (i j : ℕ) (up : Neighbours) → 4 ≤ i → i % 2 ≡ 0 → j ≡ i / 2 → up ≡ neighbours j → around_half true i up ≡ neighbours i
neighbours_even i j up h z e f =
    ap (around_half true i) (f ∙ ap neighbours e) ∙ (ap (λ (b : Bool). around_half b i (neighbours (i / 2))) (sym (eq-eqb (i % 2) 0 z)) ∙ sym (neighbours_half i h))

pub neighbours_odd : (i j : ℕ) (up : Neighbours) → 4 ≤ i → (i % 2 ≡ 0 → ⊥) → j ≡ i / 2 → up ≡ neighbours j → around_half false i up ≡ neighbours i
neighbours_odd i j up h z e f =
    ap (around_half false i) (f ∙ ap neighbours e) ∙ (ap (λ (b : Bool). around_half b i (neighbours (i / 2))) (sym (ne_eqb (i % 2) 0 z)) ∙ sym (neighbours_half i h))

-- the neighbours by number are those of the trees
half_near : (f : ℕ → ℕ) (g : Node → Node) → ((t : Node) → f (num t) ≡ num (g t)) → (z : Option Node) → option_map f (option_map num z) ≡ option_map num (option_map g z)
half_near f g h None = refl
half_near f g h (Some t) = ap Some (h t)

high_near : (z : Option Node) → high_of (option_map num z) ≡ option_map num (hi? z)
unfolding num
high_near = half_near (λ k. 2 * k + 1) hi (λ t. refl)

low_near : (z : Option Node) → low_of (option_map num z) ≡ option_map num (lo? z)
unfolding num
low_near = half_near (λ k. 2 * k) lo (λ t. refl)

base_is : (t : Node) → ((neighbours (num t)).base ≡ option_map num (around t).base) × ((neighbours (num t)).left ≡ option_map num (around t).left) × ((neighbours (num t)).right ≡ option_map num (around t).right)
unfolding num around neighbours
base_is two = (refl, refl, refl)
base_is three = (refl, refl, refl)
base_is (lo t) = let ih = base_is t in
    let s = neighbours_even (2 * num t) (num t) (neighbours (num t)) (omega (arith, num_from_two t)) (omega arith) (omega arith) refl in (
      ap (λ (u : Neighbours). u.base) (sym s) ∙ (ap high_of ih.1 ∙ high_near (around t).left),
      ap (λ (u : Neighbours). u.left) (sym s),
      ap (λ (u : Neighbours). u.right) (sym s) ∙ (ap high_of ih.0 ∙ high_near (around t).base),
    )
base_is (hi t) = let ih = base_is t in
    let back : 2 * num t + 1 - 1 ≡ 2 * num t = omega arith in
    let s = neighbours_odd (2 * num t + 1) (num t) (neighbours (num t)) (omega (arith, num_from_two t)) (λ e. omega arith) (omega arith) refl in (
      ap (λ (u : Neighbours). u.base) (sym s) ∙ (ap low_of ih.2 ∙ low_near (around t).right),
      ap (λ (u : Neighbours). u.left) (sym s) ∙ (ap low_of ih.0 ∙ low_near (around t).base),
      ap (λ (u : Neighbours). u.right) (sym s) ∙ ap Some back,
    )

-- the partner of the definition is the neighbour across the base, 0 for none
partner_neighbour : (n i : ℕ) → 2 ≤ i → i < end n → unwrap_or (neighbours i).base 0 ≡ partner n i
partner_neighbour n i p q =
    ap (λ (j : ℕ). unwrap_or (neighbours j).base 0) (sym (num_node i p)) ∙ (ap (λ (z : Option ℕ). unwrap_or z 0) (base_is (node i)).0 ∙ sym (partner_is n i p q))

pub partner_none : (n i : ℕ) → 2 ≤ i → i < end n → (neighbours i).base ≡ None → partner n i ≡ 0
partner_none n i p q e = sym (partner_neighbour n i p q) ∙ ap (λ (z : Option ℕ). unwrap_or z 0) e

numbered : (z : Option Node) (k : ℕ) → option_map num z ≡ Some k → 0 < k
numbered None k e = absurd (none-some k e)
numbered (Some t) k e = omega (arith, num_from_two t, same_Some (num t) k e)

pub partner_some : (n i k : ℕ) → 2 ≤ i → i < end n → (neighbours i).base ≡ Some k → (partner n i ≡ k) × (0 < k) × (is_triangle n k ≡ true)
partner_some n i k p q e =
    let f : partner n i ≡ k = sym (partner_neighbour n i p q) ∙ ap (λ (z : Option ℕ). unwrap_or z 0) e in
    let pos : 0 < k = numbered (around (node i)).base k (sym (base_is (node i)).0 ∙ (ap (λ (j : ℕ). (neighbours j).base) (num_node i p) ∙ e)) in
    let t = partners_true n i k (subst (λ (j : ℕ). partners n i j ≡ true) f ((partner_laws n i).partnered (omega arith))) in
    (f, pos, and_from _ _ (le-leb 2 k t.2) (lt-ltb k (end n) t.3))
