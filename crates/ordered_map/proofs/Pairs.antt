-- Lists compared by what their elements mean. Assumes nothing.
use Rattle.std.proofs.Common.{◌≡◌, ℕ, zero, suc, ◌<◌, Bool, true, false, List, [], ◌∷◌, map, length, get_or, sym, refl, ap, ◌∙◌, subst, arith}
use Rattle.std.specs.Bool.{MatchBool, Decides}
use Rattle.std.specs.List.{AllWithin, HoldsAt, zip}
use Rattle.std.proofs.lemmas.List.{length-map, get_or-map}
use Rattle.keyspace.specs.Positions.{At}
use Rattle.ordered_map.specs.Content.{Holds, Within}

module _ {E U : Type 0} (f : E → U) (xs ys : List E) where
  pub same_length : map f xs ≡ map f ys → length xs ≡ length ys
  same_length e = sym (length-map xs f) ∙ ap length e ∙ length-map ys f

  pub same_at : map f xs ≡ map f ys → (i : ℕ) (x y : E) → At xs i x → At ys i y → f x ≡ f y
  same_at e i x y a b =
      ap f a.reads ∙ sym (get_or-map f xs i x (f x) a.within) ∙ ap (λ us. get_or us i (f x)) e ∙ get_or-map f ys i y (f x) b.within ∙ sym (ap f b.reads)

-- at each position of a list there stands something
some_at : {E : Type 0} (xs : List E) (p : ℕ) → p < length xs → (x : E) × At xs p x
some_at [] p lt = absurd (omega arith)
some_at (x ∷ xs) zero lt = (x, record { within = lt; reads = refl })
some_at (x ∷ xs) (suc p) lt = let r = some_at xs p (omega arith) in (r.0, record { within = lt; reads = r.1.reads })

-- lists that are equal entry by entry hold the same
pub equal_within : {E U : Type 0} (f : E → U) (xs ys : List E) → map f xs ≡ map f ys → Within f xs ys
equal_within f xs ys e u h =
    let y = some_at ys h.0 (omega (arith, same_length f xs ys e, h.1.at.within)) in
    (h.0, record { entry = y.0; at = y.1; same = sym (same_at f xs ys e h.0 h.1.entry y.0 h.1.at y.1) ∙ h.1.same })

-- where a test of each element says whether the other list holds what it means
pub within_decided : {E U : Type 0} (f : E → U) (xs ys : List E) (r : Bool)
    → MatchBool r (AllWithin (λ x. Holds f ys (f x)) xs 0 (length xs)) ((k : ℕ) × (k < length xs) × HoldsAt (λ x. Holds f ys (f x) → ⊥) xs k) → Decides r (Within f xs ys)
within_decided f xs ys true all = (
  λ _ u h.
      let x = h.1.entry in
      let there : Holds f ys (f x) = subst (λ y. Holds f ys (f y)) (sym h.1.at.reads) (all h.0 x (omega arith) h.1.at.within) in
      subst (λ v. Holds f ys v) h.1.same there,
  λ _. refl,
)
within_decided f xs ys false some = (
  λ e. cc,
  λ w.
      let x = some_at xs some.0 some.1 in
      absurd (some.2 x.0 (w (f (get_or xs some.0 x.0)) (some.0, record { entry = x.0; at = x.1; same = ap f x.1.reads }))),
)

-- where a test of each pair says whether its two mean the same
all_equal : {E U : Type 0} (f : E → U) (xs ys : List E) → length xs ≡ length ys → AllWithin (λ p. f p.0 ≡ f p.1) (zip xs ys) 0 (length (zip xs ys)) → map f xs ≡ map f ys
all_equal f [] [] e all = refl
all_equal f [] (y ∷ ys) e all = absurd (omega arith)
all_equal f (x ∷ xs) [] e all = absurd (omega arith)
all_equal f (x ∷ xs) (y ∷ ys) e all =
    let head : f x ≡ f y = all 0 (x, y) (omega arith) (omega arith) in
    let tail : map f xs ≡ map f ys = all_equal f xs ys (omega arith) (λ k d lo hi. all (suc k) d (omega arith) (omega arith)) in
    cc

none_apart : {E U : Type 0} (f : E → U) (xs ys : List E) → map f xs ≡ map f ys → (k : ℕ) → k < length (zip xs ys) → HoldsAt (λ p. f p.0 ≡ f p.1 → ⊥) (zip xs ys) k → ⊥
none_apart f [] ys e k lt h = absurd (omega arith)
none_apart f (x ∷ xs) [] e k lt h = absurd (omega arith)
none_apart f (x ∷ xs) (y ∷ ys) e zero lt h = let same : f x ≡ f y = cc in h (x, y) same
none_apart f (x ∷ xs) (y ∷ ys) e (suc k) lt h = let rest : map f xs ≡ map f ys = cc in none_apart f xs ys rest k (omega arith) h

pub equal_decided : {E U : Type 0} (f : E → U) (xs ys : List E) (r : Bool) → length xs ≡ length ys
    → MatchBool r (AllWithin (λ p. f p.0 ≡ f p.1) (zip xs ys) 0 (length (zip xs ys))) ((k : ℕ) × (k < length (zip xs ys)) × HoldsAt (λ p. f p.0 ≡ f p.1 → ⊥) (zip xs ys) k)
    → Decides r (map f xs ≡ map f ys)
equal_decided f xs ys true e all = (λ _. all_equal f xs ys e all, λ _. refl)
equal_decided f xs ys false e some = (λ z. cc, λ same. absurd (none_apart f xs ys same some.0 some.1 some.2))
