-- One item that is taken into lent memory. Assumes nothing.
use Rattle.std.proofs.Common.{◌≡◌, ℕ, ◌+◌, ◌-◌, ◌<◌, ◌≤◌, min, false, List, ◌++◌, length, take, drop, Ok, Err, Result, MatchResult, IsOkAnd, sym, refl, ap, ◌∙◌, subst, arith}
use borrow.Rule.Slice.PartMut.{put_mid}
use Rattle.std.proofs.lemmas.List.{length-drop, length-take-le, drop_at, take_all, drop-drop, take-append-le, drop-append-le, drop_all, take-append-drop}
use Rattle.std.proofs.lemmas.Bool.{lt-ltb, le-ltb}
use Rattle.std.proofs.lemmas.Slice.{take-put_mid_below}
use Rattle.refusal.specs.declared.Refusal.TheVariants.{ResultMemory}
use Rattle.carrier.specs.Items.{Datum, run, fixed, Held, Of, a_run, a_fixed, bulk}
use Rattle.carrier.specs.Steps.{State, Taken, Missing, Takes, TookRun}
use Rattle.transfer.specs.Cells.{read, lacks, limited, Cause, no_item, no_bytes, Cell, Below, TookOne, NotOne, TakesOne}
use Rattle.carrier.specs.declared.CarrierFault.{CarrierFault}
use Rattle.carrier.specs.declared.Kind.{Kind}
use Rattle.carrier.specs.declared.Kind.TheVariants as kind
use Rattle.carrier.specs.declared.Item.TheVariants.{Run, Fixed}

module _ (code : Datum → List ℕ) {k j : Kind} (is : k ≡ j) (used : ℕ) (bytes : List ℕ) where
  -- no such item: nothing changed
  pub one_missing : {s t : State} {taken : ℕ} {e : CarrierFault} → lacks j (length bytes - used) ≡ false → Missing code (limited j (length bytes - used)) taken e s t → NotOne code k (length bytes - used) taken e bytes bytes s t
  one_missing {s} {t} {taken} {e} l m = subst (λ i. NotOne code i (length bytes - used) taken e bytes bytes s t) (sym is)
      (record {
        cause = subst (Cause code j 1 (length bytes - used) s.row) (sym (ap (λ x. x.refusal) m.fault)) (no_item (omega arith) l m.none);
        numbers = ap (λ x. x.taken) m.fault;
        same_bytes = refl;
        same = m.same;
      })

  -- an item without bytes
  one_taken : {s t : State} (cell : Cell) (d : Datum) → used ≤ length bytes → Of j d → bulk d ≡ 0 → ((n : ℕ) → Below n cell) → read bytes cell ≡ d → Taken code d s t → TookOne code k used cell bytes bytes s t
  one_taken {s} {t} cell d h of none low e a =
      let b : bulk (read bytes cell) ≡ 0 = ap bulk e ∙ none in
      subst (λ i. TookOne code i used cell bytes bytes s t) (sym is)
      (record { of = subst (Of j) (sym e) of; taken = subst (λ x. Taken code x s t) (sym e) a; fits = omega (arith, b); below = low _; before = refl; after = refl })

  -- such an item, as it comes out of the carrier and into a cell
  pub one_plain : {X : Type 0} (of : X → Datum) (in_cell : X → Cell) (taken : ℕ) (r : Result X CarrierFault) (r' : Result Cell CarrierFault) (s t : State)
      → lacks j (length bytes - used) ≡ false → limited j (length bytes - used) ≡ j → ((x : X) → Of j (of x)) → ((x : X) → bulk (of x) ≡ 0) → ((x : X) (n : ℕ) → Below n (in_cell x)) → ((x : X) → Held (of x) → read bytes (in_cell x) ≡ of x)
      → used ≤ length bytes → MatchResult r (λ x. IsOkAnd r' (λ y. y ≡ in_cell x)) (λ e. r' ≡ Err e) → Takes code j of taken r s t → TakesOne code k used taken r' bytes bytes s t
  one_plain of in_cell taken (Ok x) (Ok y) s t l m kinds none low reads h e a = subst (λ y. TookOne code k used y bytes bytes s t) (sym e) (one_taken (in_cell x) (of x) h (kinds x) (none x) (low x) (reads x a.held) a)
  one_plain of in_cell taken (Ok x) (Err e') s t l m kinds none low reads h e a = absurd e
  one_plain of in_cell taken (Err e) r' s t l m kinds none low reads h p a =
      subst (λ r. TakesOne code k used taken r bytes bytes s t) (sym p) (one_missing l (subst (λ i. Missing code i taken e s t) (sym m) a))

-- a part of the byte memory, k bytes from `used` on, now holds ys
module _ (used k : ℕ) (bytes ys : List ℕ) (inside : used + k ≤ length bytes) (long : length ys ≡ k) where
  filled : drop used (put_mid used k bytes ys) ≡ ys ++ drop k (drop used bytes)
  filled = drop_at (take used bytes) (ys ++ drop k (drop used bytes)) used (length-take-le used bytes (omega arith))

  filled_front : (n : ℕ) → n ≤ k → take n (drop used (put_mid used k bytes ys)) ≡ take n ys
  filled_front n h = ap (take n) filled ∙ take-append-le n ys (drop k (drop used bytes)) (omega arith)

  filled_after : (n : ℕ) → n ≤ k → drop n ys ≡ drop n (take k (drop used bytes)) → drop (used + n) (put_mid used k bytes ys) ≡ drop (used + n) bytes
  filled_after n h e =
      let x = drop used bytes in
      let size : length (take k x) ≡ k = length-take-le k x (simp length-drop (omega arith)) in
      sym (drop-drop n used (put_mid used k bytes ys)) ∙ ap (drop n) filled
      ∙ drop-append-le n ys (drop k x) (omega arith) ∙ ap (λ l. l ++ drop k x) e
      ∙ sym (drop-append-le n (take k x) (drop k x) (omega arith)) ∙ ap (drop n) (take-append-drop k x) ∙ drop-drop n used bytes

  -- an item whose n bytes lie there
  module _ (code : Datum → List ℕ) (kd j : Kind) (is : kd ≡ j) (s t : State) (n : ℕ) (few : n ≤ k) (f : List ℕ → Datum) (cell : Cell) where
    pub one_filled : ((bs : List ℕ) → read bs cell ≡ f (take n (drop used bs))) → ((bs : List ℕ) → bulk (f bs) ≡ length bs) → Below (used + n) cell
        → Of j (f (take n ys)) → Taken code (f (take n ys)) s t → drop n ys ≡ drop n (take k (drop used bytes)) → TookOne code kd used cell bytes (put_mid used k bytes ys) s t
    one_filled reads size low of a rest =
        let d = reads (put_mid used k bytes ys) ∙ ap f (filled_front n few) in
        let b : bulk (read (put_mid used k bytes ys) cell) ≡ n = ap bulk d ∙ size (take n ys) ∙ length-take-le n ys (omega arith) in
        subst (λ i. TookOne code i used cell bytes (put_mid used k bytes ys) s t) (sym is)
        (record {
          of = subst (Of j) (sym d) of;
          taken = subst (λ x. Taken code x s t) (sym d) a;
          fits = omega (arith, b);
          below = subst (λ m. Below (used + m) cell) (sym b) low;
          before = take-put_mid_below used k bytes ys used (omega arith) (omega arith);
          after = subst (λ m. drop (used + m) (put_mid used k bytes ys) ≡ drop (used + m) bytes) (sym b) (filled_after n few rest);
        })

-- a part that is as it was
pub part_same : (used k : ℕ) (bytes ys : List ℕ) → ys ≡ take k (drop used bytes) → put_mid used k bytes ys ≡ bytes
part_same used k bytes ys e =
    ap (λ l. take used bytes ++ (l ++ drop k (drop used bytes))) e
    ∙ ap (λ l. take used bytes ++ l) (take-append-drop k (drop used bytes)) ∙ take-append-drop used bytes

abbrev part : ℕ → ℕ → List ℕ → List ℕ
part used k bytes = take k (drop used bytes)

part_long : (used k : ℕ) (bytes : List ℕ) → used + k ≤ length bytes → length (part used k bytes) ≡ k
part_long used k bytes h = length-take-le k (drop used bytes) (simp length-drop (omega arith))

module _ (code : Datum → List ℕ) (k : Kind) (used : ℕ) (bytes out' : List ℕ) (s t : State) where
  abbrev left : ℕ
  left = length bytes - used

  pub one_run : (most n : ℕ) → k ≡ kind.Run most → used ≤ length bytes → length out' ≡ length (part used left bytes) → TookRun code (min most (length (part used left bytes))) n (part used left bytes) out' s t
      → TookOne code k used (Run (record { start = used; len = n })) bytes (put_mid used left bytes out') s t
  one_run most n is h long r =
      let e = part_long used left bytes (omega arith) in
      one_filled used left bytes out' (omega arith) (long ∙ e) code k (kind.Run most) is s t n (omega (arith, r.fits, e)) run (Run (record { start = used; len = n }))
      (λ bs. refl) (λ bs. refl) (omega arith) (a_run (omega (arith, length-take-le n out' (omega (arith, r.fits, long)), r.small))) r.taken r.rest

  pub one_run_missing : (most taken : ℕ) (e : CarrierFault) → k ≡ kind.Run most → used ≤ length bytes → out' ≡ part used left bytes → Missing code (kind.Run (min most (length (part used left bytes)))) taken e s t
      → NotOne code k left taken e bytes (put_mid used left bytes out') s t
  one_run_missing most taken e is h same m =
      let l = part_long used left bytes (omega arith) in
      subst (λ bs. NotOne code k left taken e bytes bs s t) (sym (part_same used left bytes out' same))
      (one_missing code is used bytes refl (subst (λ n. Missing code (kind.Run (min most n)) taken e s t) l m))

  module _ (n : ℕ) (is : k ≡ kind.Fixed n) (h : used ≤ length bytes) (few : n ≤ left) where
    abbrev wide : ℕ
    wide = used + n - used

    wide_is : wide ≡ n
    wide_is = omega arith

    pub one_fixed : length out' ≡ length (part used wide bytes) → Taken code (fixed out') s t → TookOne code k used (Fixed (record { start = used; len = n })) bytes (put_mid used wide bytes out') s t
    one_fixed long a =
        let e = part_long used wide bytes (omega (arith, wide_is)) in
        let all : take n out' ≡ out' = take_all n out' (omega (arith, long, e, wide_is)) in
        let none : drop n out' ≡ drop n (part used wide bytes) = drop_all n out' (omega (arith, long, e, wide_is)) ∙ sym (drop_all n (part used wide bytes) (omega (arith, e, wide_is))) in
        one_filled used wide bytes out' (omega (arith, wide_is)) (long ∙ e) code k (kind.Fixed n) is s t n (omega (arith, wide_is)) fixed (Fixed (record { start = used; len = n }))
        (λ bs. refl) (λ bs. refl) (omega arith) (a_fixed (ap length all ∙ long ∙ e ∙ wide_is)) (subst (λ bs. Taken code (fixed bs) s t) (sym all) a) none

    pub one_fixed_missing : (taken : ℕ) (e : CarrierFault) → out' ≡ part used wide bytes → Missing code (kind.Fixed (length (part used wide bytes))) taken e s t → NotOne code k left taken e bytes (put_mid used wide bytes out') s t
    one_fixed_missing taken e same m =
        let l = part_long used wide bytes (omega (arith, wide_is)) ∙ wide_is in
        subst (λ bs. NotOne code k left taken e bytes bs s t) (sym (part_same used wide bytes out' same))
        (one_missing code is used bytes (le-ltb left n few) (subst (λ n. Missing code (kind.Fixed n) taken e s t) l m))

-- no memory for a fixed
pub one_fixed_lacks : (code : Datum → List ℕ) (k : Kind) (n used taken : ℕ) (bytes : List ℕ) (s : State) → k ≡ kind.Fixed n → length bytes - used < n → NotOne code k (length bytes - used) taken (record { refusal = ResultMemory; taken = taken }) bytes bytes s s
one_fixed_lacks code k n used taken bytes s is h = subst (λ i. NotOne code i (length bytes - used) taken (record { refusal = ResultMemory; taken = taken }) bytes bytes s s) (sym is)
    (record { cause = no_bytes (omega arith) (lt-ltb (length bytes - used) n h); numbers = refl; same_bytes = refl; same = refl })
