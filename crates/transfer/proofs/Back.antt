-- What was put comes back: no two lists of items of the same kinds have codes of which one begins the other. Assumes nothing.
use Rattle.std.proofs.Common.{◌≡◌, ℕ, ◌+◌, ◌-◌, ◌<◌, ◌≤◌, true, List, [], ◌∷◌, ◌++◌, length, get_or, take, drop, sym, refl, ap, ◌∙◌, subst, append_assoc, append-nil, arith, take-append-drop}
use Rattle.std.proofs.lemmas.List.{append_cancel_left, drop_more}
use Rattle.std.proofs.lemmas.Bool.{ltb-true, false≢true}
use Rattle.carrier.specs.Items.{Datum, Held, Of, a_truth, a_whole, a_single, a_double, a_run, a_fixed, All, bulk, Apart}
use Rattle.carrier.specs.Steps.{State}
use Rattle.carrier.specs.Lists.{codes}
use Rattle.transfer.specs.Cells.{items, bulks, Each, TookAll, lacks, limited, Cause, no_cell, no_bytes, no_item, Stopped}
use Rattle.carrier.specs.declared.CarrierFault.{CarrierFault}
use Rattle.carrier.specs.declared.Kind.{Kind}
use Rattle.carrier.specs.declared.Kind.TheVariants as kind
use Rattle.transfer.specs.Cells.{Cell}
use Rattle.transfer.specs.declared.cells.Taking.{Taking}
use Rattle.refusal.specs.declared.Refusal.{Refusal}
use Rattle.transfer.proofs.Takes.{bulks_append}

-- ds are the items got and others, of which y holds the codes
record Rest (code : Datum → List ℕ) (more : List Kind) (got ds : List Datum) (x y : List ℕ) : Type 0 where
  pub tail : List Datum
  pub all : ds ≡ got ++ tail
  pub kinds : Each more tail
  pub held : All Held tail
  pub row : x ≡ codes code tail ++ y

same_front : (code : Datum → List ℕ) → Apart code → (ks more : List Kind) (got ds : List Datum) (x y : List ℕ) → Each ks got → Each (ks ++ more) ds → All Held got → All Held ds → codes code got ++ x ≡ codes code ds ++ y → Rest code more got ds x y
same_front code apart [] more [] ds x y p q h k e = record { tail = ds; all = refl; kinds = q; held = k; row = e }
same_front code apart [] more (g ∷ got) ds x y p q h k e = absurd p
same_front code apart (k' ∷ ks) more [] ds x y p q h k e = absurd p
same_front code apart (k' ∷ ks) more (g ∷ got) [] x y p q h k e = absurd q
same_front code apart (k' ∷ ks) more (g ∷ got) (d ∷ ds) x y p q h k e =
    let f = sym (append_assoc (code g) (codes code got) x) ∙ e ∙ append_assoc (code d) (codes code ds) y in
    let same = apart k' g d (codes code got ++ x) (codes code ds ++ y) p.0 q.0 h.0 k.0 f in
    let rest = append_cancel_left (code d) (codes code got ++ x) (codes code ds ++ y) (ap (λ i. code i ++ (codes code got ++ x)) (sym same) ∙ f) in
    let r = same_front code apart ks more got ds x y p.1 q.1 h.1 k.1 rest in
    record { tail = r.tail; all = (λ i. sym same i ∷ r.all i); kinds = r.kinds; held = r.held; row = r.row }

none_left : (ds : List Datum) → Each [] ds → ds ≡ []
none_left [] p = refl
none_left (d ∷ ds) p = absurd p

pub back_all : {code : Datum → List ℕ} → Apart code → {ks : List Kind} {r : Taking} {cells cells' : List Cell} {bytes bytes' : List ℕ} {s t : State} → TookAll code ks r cells cells' bytes bytes' s t
    → (ds : List Datum) (rest : List ℕ) → Each ks ds → All Held ds → s.row ≡ codes code ds ++ rest → (items (length ks) cells' bytes' ≡ ds) × (t.row ≡ rest)
back_all {code} apart {ks} {r} {cells} {cells'} {bytes} {bytes'} {s} {t} m ds rest p h e =
    let got = items (length ks) cells' bytes' in
    let k = m.took in
    let q = same_front code apart ks [] got ds t.row rest k.kinds (subst (λ l. Each l ds) (sym (append-nil ks)) p) k.held h (sym k.row ∙ e) in
    let z = none_left q.tail q.kinds in
    (sym (q.all ∙ ap (λ l. got ++ l) z ∙ append-nil got), q.row ∙ ap (λ l. codes code l ++ rest) z)

lacking : (k : Kind) (d : Datum) (left : ℕ) → Of k d → lacks k left ≡ true → left < bulk d
lacking k d left a_truth e = absurd (false≢true e)
lacking k d left a_whole e = absurd (false≢true e)
lacking k d left a_single e = absurd (false≢true e)
lacking k d left a_double e = absurd (false≢true e)
lacking k d left (a_run p) e = absurd (false≢true e)
lacking k d left (a_fixed {n} p) e = omega (arith, ltb-true left n e)

still_of : (k : Kind) (d : Datum) (left : ℕ) → Of k d → bulk d ≤ left → Of (limited k left) d
still_of k d left a_truth h = a_truth
still_of k d left a_whole h = a_whole
still_of k d left a_single h = a_single
still_of k d left a_double h = a_double
still_of k d left (a_run p) h = a_run (omega arith)
still_of k d left (a_fixed p) h = a_fixed p

no_cause : (code : Datum → List ℕ) (k : Kind) (cells left : ℕ) (row rest : List ℕ) (r : Refusal) (d : Datum) → Of k d → Held d → 0 < cells → bulk d ≤ left → row ≡ code d ++ rest → Cause code k cells left row r → ⊥
no_cause code k cells left row rest r d of held h fits e (no_cell p) = omega arith
no_cause code k cells left row rest r d of held h fits e (no_bytes p q) = omega (arith, lacking k d left of q)
no_cause code k cells left row rest r d of held h fits e (no_item p q none) = none d rest (still_of k d left of fits) held e

module _ {code : Datum → List ℕ} (apart : Apart code) {ks : List Kind} {n : ℕ} {e : CarrierFault} {cells cells' : List Cell} {bytes bytes' : List ℕ} {s t : State} (m : Stopped code ks n e cells cells' bytes bytes' s t) where
  abbrev got : List Datum
  got = items n cells' bytes'

  abbrev next : Kind
  next = get_or ks n kind.Truth

  stuck : (tail ds : List Datum) (rest : List ℕ) → ds ≡ got ++ tail → Each (next ∷ drop (n + 1) ks) tail → All Held tail → t.row ≡ codes code tail ++ rest → length ks ≤ length cells → bulks ds ≤ length bytes → ⊥
  stuck [] ds rest all p h row room fits = p
  stuck (d ∷ tail) ds rest all p h row room fits =
      let b = ap bulks all ∙ bulks_append got (d ∷ tail) in
      no_cause code next (length cells - n) (length bytes - bulks got) t.row (codes code tail ++ rest) e.refusal d p.0 h.0
      (omega (arith, m.before)) (omega (arith, b)) (row ∙ append_assoc (code d) (codes code tail) rest) m.cause

  pub back_stopped : (ds : List Datum) (rest : List ℕ) → Each ks ds → All Held ds → s.row ≡ codes code ds ++ rest → length ks ≤ length cells → bulks ds ≤ length bytes → ⊥
  back_stopped ds rest p h row room fits =
      let split : ks ≡ take n ks ++ (next ∷ drop (n + 1) ks) = sym (take-append-drop n ks) ∙ ap (λ l. take n ks ++ l) (drop_more ks n kind.Truth m.before) in
      let k = m.took in
      let q = same_front code apart (take n ks) (next ∷ drop (n + 1) ks) got ds t.row rest k.kinds (subst (λ l. Each l ds) split p) k.held h (sym k.row ∙ row) in
      stuck q.tail ds rest q.all q.kinds q.held q.row room fits
