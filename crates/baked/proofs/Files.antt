-- Which files are taken: layer by layer, a test that was passed says what the layout asks, and the other way round.
use Rattle.std.proofs.Common.{◌≡◌, ℕ, ◌+◌, ◌-◌, ◌*◌, ◌<◌, ◌≤◌, Bool, true, false, cond, ◌||◌, eqb, ltb, leb, ◌⊎◌, List, [], ◌∷◌, length, take, drop, sym, refl, ap, ◌∙◌, subst, ap₂, inl, inr, ⊎_elim, arith}
use mathlib.Core.Path.{fun_ext}
use Rattle.std.proofs.lemmas.Nat.{mul-add-lt}
use Rattle.std.proofs.lemmas.List.{get_or-take, get_or-drop, length-take-le, take-take, drop-take}
use Rattle.std.proofs.lemmas.Bool.{cases_Bool, and_parts, and_from, and_cases, and_left, and_right, or_parts, or_from, ltb-true, ltb-false, leb-true, le-leb, le-ltb, eqb-true, eq-eqb, cond-true, cond-false}
use Rattle.bintree.specs.declared.point.Point.{Point}
use Rattle.bintree.specs.Orders.{side, first_finest, is_order, is_splittable}
use Rattle.bintree.specs.Refusals.{Refusal, Reply, given, refused, refusal}
use Rattle.terrain.specs.Heights.{is_sample}
use Rattle.terrain.specs.Grounds.{Ground}
use Rattle.terrain.specs.Laws.{Covered}
use Rattle.terrain.specs.Filling.{sampled, bounding, described, lowest_breaking, filling_to}
use Rattle.terrain.proofs.Fillings.{fill_laws}
use Rattle.terrain.proofs.Places.{sample_x, sample_y}
use Rattle.baked.specs.Bytes.{u8_at, u16_at, u32_at, bytes_from}
use Rattle.baked.specs.Format.{trailer_at, front_of, heights_distance, bounds_distance, order_in, edition_at, edition, closing_at, closing, heights_length, bounds_length, heights_held, bounds_held, Part, part, Parts}
use Rattle.baked.specs.Reading.{passed_to, Pointers, reading_trailer, locating, heights_section, bounds_section, share, pairing, reading_sections, reading, reading_table, loading}
use Rattle.baked.specs.Laws.{Layout, parts, map_in, Holds, FileLaws}

-- a refusal gives nothing
refused_gives : {A : Type 0} (w : Refusal) (x : A) → refused w ≡ given x → ⊥
refused_gives w x e = cc

-- a test that refuses where it hits, and one that refuses where it does not
past : {A : Type 0} (b : Bool) (w : Refusal) (r : Reply A) (x : A) → cond b (refused w) r ≡ given x → (b ≡ false) × (r ≡ given x)
past true w r x e = absurd (refused_gives w x e)
past false w r x e = (refl, e)

met : {A : Type 0} (b : Bool) (w : Refusal) (r : Reply A) (x : A) → cond b r (refused w) ≡ given x → (b ≡ true) × (r ≡ given x)
met true w r x e = (refl, e)
met false w r x e = absurd (refused_gives w x e)

-- what comes through two layers came through the first
through : {A B : Type 0} (r : Reply A) (next : A → Reply B) (x : B) → passed_to r next ≡ given x → (a : A) × (r ≡ given a) × (next a ≡ given x)
through (given a) next x e = (a, refl, e)
through (refused w) next x e = absurd (refused_gives w x e)

module _ (bs : List ℕ) where
  -- the trailer
  abbrev pointers : Pointers
  pointers = record { front = front_of bs; heights = heights_distance bs; bounds = bounds_distance bs; order = order_in bs }

  record Trailed : Type 0 where
    long : 12 ≤ length bs
    short : length bs ≤ 65536
    edition_one : edition bs ≡ 1
    closing_zero : closing bs ≡ 0
    low : 1 ≤ order_in bs
    high : order_in bs ≤ 6

  trailed : (t : Pointers) → reading_trailer bs ≡ given t → Trailed × (pointers ≡ t)
  trailed t e =
      let a = past (ltb (length bs) 12 || ltb 65536 (length bs)) (refusal 1 (length bs ∷ [])) _ t e in
      let b = met (eqb (edition bs) 1) (refusal 2 (edition_at bs ∷ [])) _ t a.1 in
      let c = met (eqb (closing bs) 0) (refusal 2 (closing_at bs ∷ [])) _ t b.1 in
      let d = met (is_order (order_in bs)) (refusal 3 (order_in bs ∷ [])) _ t c.1 in
      let l = or_parts (ltb (length bs) 12) (ltb 65536 (length bs)) a.0 in
      let o = and_parts (leb 1 (order_in bs)) (leb (order_in bs) 6) d.0 in (
        record {
          long = ltb-false (length bs) 12 l.0;
          short = ltb-false 65536 (length bs) l.1;
          edition_one = eqb-true (edition bs) 1 b.0;
          closing_zero = eqb-true (closing bs) 0 c.0;
          low = leb-true 1 (order_in bs) o.0;
          high = leb-true (order_in bs) 6 o.1;
        },
        (cc d.1),
      )

  trailer_gives : Trailed → reading_trailer bs ≡ given pointers
  trailer_gives k =
      cond-false (ltb (length bs) 12 || ltb 65536 (length bs)) _ _ (or_from _ _ (le-ltb (length bs) 12 k.long) (le-ltb 65536 (length bs) k.short))
      ∙ (cond-true (eqb (edition bs) 1) _ _ (eq-eqb (edition bs) 1 k.edition_one)
      ∙ (cond-true (eqb (closing bs) 0) _ _ (eq-eqb (closing bs) 0 k.closing_zero)
      ∙ cond-true (is_order (order_in bs)) _ _ (and_from _ _ (le-leb 1 (order_in bs) k.low) (le-leb (order_in bs) 6 k.high))))

  -- a section is a part of the file, as it is of the bytes in front of the trailer
  front_length : length (front_of bs) ≡ trailer_at bs
  front_length = length-take-le (trailer_at bs) bs (omega arith)

  in_front : (h p k : ℕ) → p ≡ h → h + k ≤ trailer_at bs → part p k (front_of bs) ≡ part h k bs
  in_front h p k e l = λ i. record { place = e i; bytes = same i }
    where
      same : bytes_from p k (front_of bs) ≡ bytes_from h k bs
      same =
          ap₂ (λ q t. bytes_from q k (take t bs)) e (let s : trailer_at bs ≡ h + (trailer_at bs - h) = omega arith in s)
          ∙ (ap (take k) (drop-take h (trailer_at bs - h) bs) ∙ take-take k (trailer_at bs - h) (drop h bs) (omega arith))

  located : (w d k : ℕ) (p : Part) → locating w d k (front_of bs) ≡ given p → (d ≤ trailer_at bs) × (k ≤ d) × (part (trailer_at bs - d) k bs ≡ p)
  located w d k p e =
      let a = past (ltb (length (front_of bs)) d || ltb d k) (refusal 4 (w ∷ [])) _ p e in
      let l = or_parts (ltb (length (front_of bs)) d) (ltb d k) a.0 in
      let far : d ≤ trailer_at bs = omega (arith, front_length, ltb-false (length (front_of bs)) d l.0) in
      let room = ltb-false d k l.1 in
      (far, room, sym (in_front (trailer_at bs - d) _ k (ap (λ t. t - d) front_length) (omega arith)) ∙ (cc a.1))

  locating_gives : (w d k h : ℕ) → h + d ≡ trailer_at bs → h + k ≤ trailer_at bs → locating w d k (front_of bs) ≡ given (part h k bs)
  locating_gives w d k h s e =
      cond-false (ltb (length (front_of bs)) d || ltb d k) _ _
      (or_from _ _ (le-ltb (length (front_of bs)) d (omega (arith, front_length))) (le-ltb d k (omega arith)))
      ∙ ap given (in_front h _ k (omega (arith, front_length)) e)

  -- both
  share_apart : (p k q m : ℕ) → share p k q m ≡ false → (p + k ≤ q) ⊎ (q + m ≤ p)
  share_apart p k q m e = ⊎_elim (λ t. inr (ltb-false p (q + m) t)) (λ t. inl (ltb-false q (p + k) t)) (and_cases (ltb p (q + m)) (ltb q (p + k)) e)

  apart_share : (p k q m : ℕ) → (p + k ≤ q) ⊎ (q + m ≤ p) → share p k q m ≡ false
  apart_share p k q m (inl l) = and_right (ltb p (q + m)) (ltb q (p + k)) (le-ltb q (p + k) l)
  apart_share p k q m (inr l) = and_left (ltb p (q + m)) (ltb q (p + k)) (le-ltb p (q + m) l)

  -- a file that is laid out gives its sections
  gives_own : (h b : ℕ) → Layout bs (order_in bs) h b → reading bs ≡ given (parts bs (order_in bs) h b)
  gives_own h b k =
      let n = order_in bs in
      let ph = part h (heights_length n) bs in
      let pb = part b (bounds_length n) bs in
      ap (λ (r : Reply Pointers). passed_to r reading_sections)
      (trailer_gives (record { long = k.long; short = k.short; edition_one = k.edition_one; closing_zero = k.closing_zero; low = k.low; high = k.high }))
      ∙ (ap (λ (r : Reply Part). passed_to r (λ x. passed_to (locating bounds_section (bounds_distance bs) (bounds_length n) (front_of bs)) (λ y. pairing n x y)))
      (locating_gives heights_section (heights_distance bs) (heights_length n) h k.heights_start k.heights_end)
      ∙ (ap (λ (r : Reply Part). passed_to r (λ y. pairing n ph y)) (locating_gives bounds_section (bounds_distance bs) (bounds_length n) b k.bounds_start k.bounds_end)
      ∙ cond-false (share h (heights_length n) b (bounds_length n)) _ _ (apart_share h (heights_length n) b (bounds_length n) k.apart)))

  gives : (n h b : ℕ) → Layout bs n h b → reading bs ≡ given (parts bs n h b)
  gives n h b k = subst (λ (m : ℕ). Layout bs m h b → reading bs ≡ given (parts bs m h b)) k.order (gives_own h b) k

  -- sections that are given out come from a file that is laid out
  abbrev Out : Parts → Type 0
  Out s = Layout bs s.order s.heights.place s.bounds.place × (s ≡ parts bs s.order s.heights.place s.bounds.place)

  given_out : (s : Parts) → reading bs ≡ given s → Out s
  given_out s e =
      let n = order_in bs in
      let dh = heights_distance bs in
      let db = bounds_distance bs in
      let h = trailer_at bs - dh in
      let b = trailer_at bs - db in
      let t = through (reading_trailer bs) reading_sections s e in
      let k = trailed t.0 t.1 in
      let x = through (locating heights_section dh (heights_length n) (front_of bs)) (λ x. passed_to (locating bounds_section db (bounds_length n) (front_of bs)) (λ y. pairing n x y)) s
      (ap reading_sections k.1 ∙ t.2) in
      let y = through (locating bounds_section db (bounds_length n) (front_of bs)) (λ y. pairing n x.0 y) s x.2 in
      let lx = located heights_section dh (heights_length n) x.0 x.1 in
      let ly = located bounds_section db (bounds_length n) y.0 y.1 in
      let p = past (share h (heights_length n) b (bounds_length n)) (refusal 5 []) (given (parts bs n h b)) s (ap₂ (pairing n) lx.2 ly.2 ∙ y.2) in
      let l : Layout bs n h b = record {
        long = k.0.long;
        short = k.0.short;
        edition_one = k.0.edition_one;
        closing_zero = k.0.closing_zero;
        order = refl;
        low = k.0.low;
        high = k.0.high;
        heights_start = omega (arith, lx.0);
        bounds_start = omega (arith, ly.0);
        heights_end = omega (arith, lx.0, lx.1);
        bounds_end = omega (arith, ly.0, ly.1);
        apart = share_apart h (heights_length n) b (bounds_length n) p.0;
      } in
      subst Out (let q : parts bs n h b ≡ s = cc p.1 in q) (l, refl)

  -- a byte of a section is one of the file
  byte_in : (p k i m : ℕ) → i < k → p + i ≡ m → u8_at (bytes_from p k bs) i ≡ u8_at bs m
  byte_in p k i m l e = get_or-take k (drop p bs) i 0 l ∙ (get_or-drop p bs i 0 ∙ ap (u8_at bs) e)

  short_in : (p k j : ℕ) → j + 2 ≤ k → u16_at (bytes_from p k bs) j ≡ u16_at bs (p + j)
  short_in p k j l =
      ap₂ (λ (x y : ℕ). x + y * 256) (byte_in p k j (p + j) (omega arith) refl) (byte_in p k (j + 1) (p + j + 1) (omega arith) (omega arith))

  word_in : (p k j : ℕ) → j + 4 ≤ k → u32_at (bytes_from p k bs) j ≡ u32_at bs (p + j)
  word_in p k j l =
      let a = byte_in p k j (p + j) (omega arith) refl in
      let b = byte_in p k (j + 1) (p + j + 1) (omega arith) (omega arith) in
      let c = byte_in p k (j + 2) (p + j + 2) (omega arith) (omega arith) in
      let d = byte_in p k (j + 3) (p + j + 3) (omega arith) (omega arith) in
      omega arith

  -- so what the sections hold is what the file holds
  module _ (n h b : ℕ) where
    heights_same : sampled n (heights_held n (bytes_from h (heights_length n) bs)) ≡ (map_in bs n h b).heights
    unfolding sampled
    heights_same = fun_ext (λ p. at p (cases_Bool (is_sample n p)))
      where
        at : (p : Point) → (is_sample n p ≡ true) ⊎ (is_sample n p ≡ false)
            → cond (is_sample n p) (heights_held n (bytes_from h (heights_length n) bs) p) 0 ≡ cond (is_sample n p) (u16_at bs (h + 2 * (p.y * (side n + 1) + p.x))) 0
        at p (inl t) =
            let x = sample_x n p t in
            let y = sample_y n p t in
            let l = mul-add-lt p.y (side n + 1) p.x (side n + 1) (omega arith) (omega arith) in
            ap (λ (z : ℕ). cond (is_sample n p) z 0) (short_in h (heights_length n) (2 * (p.y * (side n + 1) + p.x)) (omega arith))
        at p (inr t) = cond-false (is_sample n p) _ _ t ∙ sym (cond-false (is_sample n p) _ _ t)

    bounds_same : bounding n (bounds_held (bytes_from b (bounds_length n) bs)) ≡ (map_in bs n h b).bounds
    unfolding bounding
    bounds_same = fun_ext (λ i. at i (cases_Bool (is_splittable n i)))
      where
        at : (i : ℕ) → (is_splittable n i ≡ true) ⊎ (is_splittable n i ≡ false)
            → cond (is_splittable n i) (bounds_held (bytes_from b (bounds_length n) bs) i) 0 ≡ cond (is_splittable n i) (u32_at bs (b + 4 * (i - 2))) 0
        at i (inl t) =
            let k = and_parts (leb 2 i) (ltb i (first_finest n)) t in
            let low = leb-true 2 i k.0 in
            let high = ltb-true i (first_finest n) k.1 in
            ap (λ (z : ℕ). cond (is_splittable n i) z 0) (word_in b (bounds_length n) (4 * (i - 2)) (omega arith))
        at i (inr t) = cond-false (is_splittable n i) _ _ t ∙ sym (cond-false (is_splittable n i) _ _ t)

    map_same : described n (heights_held n (bytes_from h (heights_length n) bs)) (bounds_held (bytes_from b (bounds_length n) bs)) ≡ map_in bs n h b
    map_same = λ i. record { order = n; heights = heights_same i; bounds = bounds_same i }

  takes : (g : Ground) → Holds bs g → loading bs ≡ given g
  takes g k =
      let n = k.order in
      let h = k.heights in
      let b = k.bounds in
      ap (λ (r : Reply Parts). passed_to r reading_table) (gives n h b k.layout)
      ∙ (ap (λ (m : Ground). filling_to m (lowest_breaking m)) (map_same n h b)
      ∙ ((fill_laws n _ _).gives (subst Covered k.map k.covers) ∙ ap {A = Ground} {B = Reply Ground} given (sym k.map)))

  taken : (g : Ground) → loading bs ≡ given g → Holds bs g
  taken g e =
      let t = through (reading bs) reading_table g e in
      let s = t.0 in
      let o = given_out s t.1 in
      let n = s.order in
      let h = s.heights.place in
      let b = s.bounds.place in
      let f = (fill_laws n (heights_held n (bytes_from h (heights_length n) bs)) (bounds_held (bytes_from b (bounds_length n) bs))).covers g (sym (ap reading_table o.1) ∙ t.2) in
      record { order = n; heights = h; bounds = b; layout = o.0; map = f.0 ∙ map_same n h b; covers = f.1 }

  pub file_laws : FileLaws bs
  file_laws = record { gives = gives; given_out = given_out; takes = takes; taken = taken }
