-- A list in another order holds the same. Assumes nothing.
use Rattle.std.proofs.Common.{◌≡◌, ℕ, zero, suc, ◌⊎◌, List, ◌∷◌, sym, refl, ap, ◌∙◌, subst, inl, inr, ⊎_elim, arith}
use Rattle.keyspace.specs.Positions.{Meets, Absent}
use Rattle.ordered_map.specs.Content.{Within}
use Rattle.ordered_map.specs.Maps.{Distinct}
use Rattle.ordered_map.specs.Insertions.{Reordered, same, kept, swapped, both}

module _ {E U : Type 0} (f : E → U) where
  pub at_head : (x : E) (xs : List E) (u : U) → f x ≡ u → Meets f (x ∷ xs) 0 u
  at_head x xs u e = record { entry = x; at = record { within = omega arith; reads = refl }; same = e }

  pub at_tail : (x : E) (xs : List E) (p : ℕ) (u : U) → Meets f xs p u → Meets f (x ∷ xs) (suc p) u
  at_tail x xs p u m = record { entry = m.entry; at = record { within = omega (arith, m.at.within); reads = m.at.reads }; same = m.same }

  -- what stands in a list stands first or in the rest
  pub head_or_tail : (x : E) (xs : List E) (p : ℕ) (u : U) → Meets f (x ∷ xs) p u → ((p ≡ 0) × (f x ≡ u)) ⊎ ((q : ℕ) × ((p ≡ suc q) × Meets f xs q u))
  head_or_tail x xs zero u m = inl (refl, ap f (sym m.at.reads) ∙ m.same)
  head_or_tail x xs (suc p) u m = inr (p, (refl, record { entry = m.entry; at = record { within = omega (arith, m.at.within); reads = m.at.reads }; same = m.same }))

  pub within_cons : (x : E) (xs ys : List E) → Within f xs ys → Within f (x ∷ xs) (x ∷ ys)
  within_cons x xs ys w u h =
      ⊎_elim
      (λ a. (0, at_head x ys u a.1))
      (λ b. let k = w u (b.0, b.1.1) in (suc k.0, at_tail x ys k.0 u k.1))
      (head_or_tail x xs h.0 u h.1)

  within_swap : (x y : E) (xs : List E) → Within f (x ∷ y ∷ xs) (y ∷ x ∷ xs)
  within_swap x y xs u h =
      ⊎_elim
      (λ a. (1, at_tail y (x ∷ xs) 0 u (at_head x xs u a.1)))
      (λ b. ⊎_elim
      (λ a. (0, at_head y (x ∷ xs) u a.1))
      (λ d. (suc (suc d.0), at_tail y (x ∷ xs) (suc d.0) u (at_tail x xs d.0 u d.1.1)))
      (head_or_tail y xs b.0 u b.1.1))
      (head_or_tail x (y ∷ xs) h.0 u h.1)

  pub reordered_within : {xs ys : List E} → Reordered xs ys → Within f xs ys
  reordered_within same u h = h
  reordered_within (kept {x} {xs} {ys} r) u h = within_cons x xs ys (reordered_within r) u h
  reordered_within (swapped {x} {y} {xs}) u h = within_swap x y xs u h
  reordered_within (both r s) u h = reordered_within s u (reordered_within r u h)

  pub distinct_head : (x : E) (xs : List E) → Distinct f (x ∷ xs) → Absent f xs (f x)
  distinct_head x xs d q m = omega (arith, d 0 (suc q) (f x) (at_head x xs (f x) refl) (at_tail x xs q (f x) m))

  pub distinct_tail : (x : E) (xs : List E) → Distinct f (x ∷ xs) → Distinct f xs
  distinct_tail x xs d p q v mp mq = omega (arith, d (suc p) (suc q) v (at_tail x xs p v mp) (at_tail x xs q v mq))

  distinct_cons : (x : E) (xs : List E) → Absent f xs (f x) → Distinct f xs → Distinct f (x ∷ xs)
  distinct_cons x xs absent d p q v mp mq =
      ⊎_elim
      (λ a. ⊎_elim
      (λ b. a.0 ∙ sym b.0)
      (λ b. absurd (absent b.0 (subst (λ u. Meets f xs b.0 u) (sym a.1) b.1.1)))
      (head_or_tail x xs q v mq))
      (λ a. ⊎_elim
      (λ b. absurd (absent a.0 (subst (λ u. Meets f xs a.0 u) (sym b.1) a.1.1)))
      (λ b. a.1.0 ∙ ap suc (d a.0 b.0 v a.1.1 b.1.1) ∙ sym b.1.0)
      (head_or_tail x xs q v mq))
      (head_or_tail x xs p v mp)

pub reordered_back : {E : Type 0} {xs ys : List E} → Reordered xs ys → Reordered ys xs
reordered_back same = same
reordered_back (kept r) = kept (reordered_back r)
reordered_back swapped = swapped
reordered_back (both r s) = both (reordered_back s) (reordered_back r)

module _ {E U : Type 0} (f : E → U) where
  pub reordered_distinct : {xs ys : List E} → Reordered xs ys → Distinct f xs → Distinct f ys
  reordered_distinct same d = d
  reordered_distinct (kept {x} {xs} {ys} r) d =
      distinct_cons f x ys
      (λ q m. let h = reordered_within f (reordered_back r) (f x) (q, m) in distinct_head f x xs d h.0 h.1)
      (reordered_distinct r (distinct_tail f x xs d))
  reordered_distinct (swapped {x} {y} {xs}) d =
      let rest = distinct_tail f x (y ∷ xs) d in
      distinct_cons f y (x ∷ xs)
      (λ q m. ⊎_elim
      (λ a. distinct_head f x (y ∷ xs) d 0 (at_head f y xs (f x) (sym a.1)))
      (λ b. distinct_head f y xs rest b.0 b.1.1)
      (head_or_tail f x xs q (f y) m))
      (distinct_cons f x xs (λ q m. distinct_head f x (y ∷ xs) d (suc q) (at_tail f y xs q (f x) m)) (distinct_tail f y xs rest))
  reordered_distinct (both r s) d = reordered_distinct s (reordered_distinct r d)
