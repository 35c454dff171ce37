-- Items that are taken into lent memory one after another. Assumes nothing.
use Rattle.std.proofs.Common.{◌≡◌, ℕ, ◌+◌, ◌-◌, ◌^◌, ◌<◌, ◌≤◌, List, [], ◌∷◌, ◌++◌, map, length, get_or, take, drop, set, sym, refl, ap, ◌∙◌, subst, ⊎_elim, append_assoc, append-nil, arith}
use Rattle.std.proofs.lemmas.Grind.{flat_map-append}
use Rattle.std.proofs.lemmas.List.{length-append, length_push, length-set, take_more, take_more_set, take_all, take-take, drop-take, drop-set-lt, drop-drop, map-append, length-map, length-take}
use Rattle.std.proofs.lemmas.Bool.{cases_lt}
use Rattle.carrier.specs.Items.{Datum, run, fixed, Held, Of, All, bulk}
use Rattle.carrier.specs.Steps.{State, Taken}
use Rattle.carrier.specs.Lists.{codes}
use Rattle.transfer.specs.Cells.{within, read, items, bulks, Each, Took, TookAll, Cause, no_cell, no_bytes, no_item, Stopped, Below, TookOne, NotOne}
use Rattle.carrier.specs.declared.CarrierFault.{CarrierFault}
use Rattle.carrier.specs.declared.Kind.{Kind}
use Rattle.carrier.specs.declared.Kind.TheVariants as kind
use Rattle.transfer.specs.Cells.{Cell}
use Rattle.carrier.specs.declared.Item.TheVariants.{Truth, Whole, Single, Double, Run, Fixed}
use Rattle.transfer.specs.declared.cells.Span.{Span}
use Rattle.refusal.specs.declared.Refusal.{Refusal}
use Rattle.refusal.specs.declared.Refusal.TheVariants.{ResultMemory}
use Rattle.carrier.proofs.Rows.{all_append}

-- a cell depends on the bytes below its end alone
within_front : (n : ℕ) (bs : List ℕ) (s : Span) → s.start + s.len ≤ n → within bs s ≡ within (take n bs) s
within_front n bs s h =
    sym (drop-take s.start s.len bs) ∙ ap (drop s.start) (sym (take-take (s.start + s.len) n bs h)) ∙ drop-take s.start s.len (take n bs)

within_same : (n : ℕ) (bs bs' : List ℕ) (s : Span) → take n bs' ≡ take n bs → s.start + s.len ≤ n → within bs' s ≡ within bs s
within_same n bs bs' s e h = within_front n bs' s h ∙ ap (λ l. within l s) e ∙ sym (within_front n bs s h)

read_same : (n : ℕ) (bs bs' : List ℕ) (cell : Cell) → take n bs' ≡ take n bs → Below n cell → read bs' cell ≡ read bs cell
read_same n bs bs' (Truth b) e h = refl
read_same n bs bs' (Whole z) e h = refl
read_same n bs bs' (Single k) e h = refl
read_same n bs bs' (Double k) e h = refl
read_same n bs bs' (Run s) e h = ap run (within_same n bs bs' s e h)
read_same n bs bs' (Fixed s) e h = ap fixed (within_same n bs bs' s e h)

reads_same : (n : ℕ) (bs bs' : List ℕ) (cells : List Cell) → take n bs' ≡ take n bs → All (Below n) cells → map (read bs') cells ≡ map (read bs) cells
reads_same n bs bs' [] e h = refl
reads_same n bs bs' (x ∷ xs) e h = let p = read_same n bs bs' x e h.0 in let q = reads_same n bs bs' xs e h.1 in λ i. p i ∷ q i

below_more : (m n : ℕ) (cell : Cell) → m ≤ n → Below m cell → Below n cell
below_more m n (Truth b) h p = p
below_more m n (Whole z) h p = p
below_more m n (Single k) h p = p
below_more m n (Double k) h p = p
below_more m n (Run s) h p = omega arith
below_more m n (Fixed s) h p = omega arith

belows_more : (m n : ℕ) (cells : List Cell) → m ≤ n → All (Below m) cells → All (Below n) cells
belows_more m n [] h p = p
belows_more m n (x ∷ xs) h p = (below_more m n x h p.0, belows_more m n xs h p.1)

pub bulks_append : (xs ys : List Datum) → bulks (xs ++ ys) ≡ bulks xs + bulks ys
bulks_append [] ys = omega arith
bulks_append (x ∷ xs) ys = let h = bulks_append xs ys in omega arith

each_push : (ks : List Kind) (ds : List Datum) (k : Kind) (d : Datum) → Each ks ds → Of k d → Each (ks ++ (k ∷ [])) (ds ++ (d ∷ []))
each_push [] [] k d p q = (q, tt)
each_push [] (x ∷ ds) k d p q = absurd p
each_push (x ∷ ks) [] k d p q = absurd p
each_push (x ∷ ks) (y ∷ ds) k d p q = (p.0, each_push ks ds k d p.1 q)

codes_push : (code : Datum → List ℕ) (ds : List Datum) (d : Datum) → codes code (ds ++ (d ∷ [])) ≡ codes code ds ++ code d
codes_push code ds d = flat_map-append code ds (d ∷ []) ∙ ap (λ l. codes code ds ++ l) (append-nil (code d))

took_more : (code : Datum → List ℕ) (ks : List Kind) (ds : List Datum) (k : Kind) (d : Datum) (s t u : State) → Took code ks ds s t → Of k d → Taken code d t u → Took code (ks ++ (k ∷ [])) (ds ++ (d ∷ [])) s u
took_more code ks ds k d s t u m of a = record {
  kinds = each_push ks ds k d m.kinds of;
  held = all_append Held ds (d ∷ []) m.held (a.held, tt);
  row = m.row ∙ ap (λ l. codes code ds ++ l) a.row ∙ sym (append_assoc (codes code ds) (code d) u.row) ∙ ap (λ l. l ++ u.row) (sym (codes_push code ds d));
  capacity = a.capacity ∙ m.capacity;
  count = omega arith;
  drained = λ h e. a.drained e;
  untouched = λ h. absurd (omega (arith, length_push ds d));
}

-- the items of the first i kinds stand in the cells
pub record Midway (code : Datum → List ℕ) (ks : List Kind) (i used numbers : ℕ) (cells cells' : List Cell) (bytes bytes' : List ℕ) (s t : State) : Type 0 where
  pub took : Took code (take i ks) (items i cells' bytes') s t
  pub used_is : used ≡ bulks (items i cells' bytes')
  pub numbers_is : numbers ≡ length (codes code (items i cells' bytes'))
  pub few : 0 < i → length s.row < 2 ^ 64
  pub room : i ≤ length cells'
  pub below : All (Below used) (take i cells')
  pub fits : used ≤ length bytes
  pub other_cells : drop i cells' ≡ drop i cells
  pub other_bytes : drop used bytes' ≡ drop used bytes

module _ {code : Datum → List ℕ} {ks : List Kind} {i used numbers : ℕ} {cells cells' : List Cell} {bytes bytes' : List ℕ} {s t : State} (m : Midway code ks i used numbers cells cells' bytes bytes' s t) (in-kinds : i < length ks) where
  abbrev here : Kind
  here = get_or ks i kind.Truth

  -- one item more
  module _ (long : length bytes' ≡ length bytes) (in_cells : i < length cells') {cell : Cell} {bytes'' : List ℕ} {u : State} (o : TookOne code here used cell bytes' bytes'' t u) where
    abbrev new : Datum
    new = read bytes'' cell

    old_items : items i cells' bytes'' ≡ items i cells' bytes'
    old_items = reads_same used bytes' bytes'' (take i cells') o.before m.below

    items_more : items (i + 1) (set cells' i cell) bytes'' ≡ items i cells' bytes' ++ (new ∷ [])
    items_more = ap (map (read bytes'')) (take_more_set cells' i cell in_cells) ∙ map-append (read bytes'') (take i cells') (cell ∷ []) ∙ ap (λ l. l ++ (new ∷ [])) old_items

    used_more : used + bulk new ≡ bulks (items (i + 1) (set cells' i cell) bytes'')
    used_more = omega (arith, ap bulks items_more, bulks_append (items i cells' bytes') (new ∷ []), m.used_is)

    numbers_more : numbers + length (code new) ≡ length (codes code (items (i + 1) (set cells' i cell) bytes''))
    numbers_more = omega (arith, ap (λ l. length (codes code l)) items_more, ap length (codes_push code (items i cells' bytes') new), length-append (codes code (items i cells' bytes')) (code new), m.numbers_is)

    took_next : Took code (take (i + 1) ks) (items (i + 1) (set cells' i cell) bytes'') s u
    took_next =
        subst (λ l. Took code l (items (i + 1) (set cells' i cell) bytes'') s u) (sym (take_more ks i kind.Truth in-kinds))
        (subst (λ l. Took code (take i ks ++ (here ∷ [])) l s u) (sym items_more)
        (took_more code (take i ks) (items i cells' bytes') here new s t u m.took o.of o.taken))

    few_more : length s.row < 2 ^ 64
    few_more = ⊎_elim
        (λ h. m.few h)
        (λ (h : i ≤ 0).
        let none : length (items i cells' bytes') ≡ 0 = simp (length-map, length-take) (omega arith) in
        subst (λ x. length x.row < 2 ^ 64) (m.took.untouched none) o.taken.few)
        (cases_lt 0 i)

    -- the numbers taken so far fit 64 bits
    pub numbers_fit : numbers + length (code new) < 2 ^ 64
    numbers_fit = omega (arith, numbers_more, few_more, ap length took_next.row, length-append (codes code (items (i + 1) (set cells' i cell) bytes'')) u.row)

    pub midway_more : Midway code ks (i + 1) (used + bulk new) (numbers + length (code new)) cells (set cells' i cell) bytes bytes'' s u
    midway_more = record {
      took = took_next;
      used_is = used_more;
      numbers_is = numbers_more;
      few = λ h. few_more;
      room = omega (arith, length-set cells' i cell);
      below = subst (All (Below (used + bulk new))) (sym (take_more_set cells' i cell in_cells))
          (all_append (Below (used + bulk new)) (take i cells') (cell ∷ []) (belows_more used (used + bulk new) (take i cells') (omega arith) m.below) (o.below, tt));
      fits = omega (arith, o.fits, long);
      other_cells = drop-set-lt (i + 1) cells' i cell (omega arith) ∙ sym (drop-drop 1 i cells') ∙ ap (drop 1) m.other_cells ∙ drop-drop 1 i cells;
      other_bytes = o.after ∙ sym (drop-drop (bulk new) used bytes') ∙ ap (drop (bulk new)) m.other_bytes ∙ drop-drop (bulk new) used bytes;
    }

  cause_cells : (j n left : ℕ) (row : List ℕ) (r : Refusal) → j ≡ 1 → 0 < n → Cause code here j left row r → Cause code here n left row r
  cause_cells j n left row r e h (no_cell p) = absurd (omega arith)
  cause_cells j n left row r e h (no_bytes p q) = no_bytes h q
  cause_cells j n left row r e h (no_item p q x) = no_item h q x

  pub stop : (e : CarrierFault) → e.taken ≡ numbers → Cause code here (length cells - i) (length bytes - used) t.row e.refusal → Stopped code ks i e cells cells' bytes bytes' s t
  stop e n c = record {
    before = in-kinds;
    took = m.took;
    taken = n ∙ m.numbers_is;
    cause = subst (λ x. Cause code here (length cells - i) (length bytes - x) t.row e.refusal) m.used_is c;
    other_cells = m.other_cells;
    other_bytes = subst (λ x. drop x bytes' ≡ drop x bytes) m.used_is m.other_bytes;
  }

  -- no cell is left
  pub stop_cells : (e : CarrierFault) → e ≡ record { refusal = ResultMemory; taken = numbers } → length cells ≤ i → Stopped code ks i e cells cells' bytes bytes' s t
  stop_cells e is h = stop e (ap (λ x. x.taken) is) (subst (Cause code here (length cells - i) (length bytes - used) t.row) (sym (ap (λ x. x.refusal) is)) (no_cell (omega arith)))

  -- the next item was not taken
  pub stop_one : {bytes'' : List ℕ} {u : State} (e : CarrierFault) → length bytes' ≡ length bytes → i < length cells → NotOne code here (length bytes' - used) numbers e bytes' bytes'' t u → Stopped code ks i e cells cells' bytes bytes'' s u
  stop_one {bytes''} {u} e long h o =
      subst (λ x. Stopped code ks i e cells cells' bytes x s u) (sym o.same_bytes)
      (subst (λ x. Stopped code ks i e cells cells' bytes bytes' s x) (sym o.same)
      (stop e o.numbers (cause_cells 1 (length cells - i) (length bytes - used) t.row e.refusal refl (omega arith) (subst (λ x. Cause code here 1 (x - used) t.row e.refusal) long o.cause))))

pub took_all : {code : Datum → List ℕ} {ks : List Kind} {i used numbers : ℕ} {cells cells' : List Cell} {bytes bytes' : List ℕ} {s t : State} → length cells' ≡ length cells → i ≡ length ks → Midway code ks i used numbers cells cells' bytes bytes' s t
    → TookAll code ks (record { bytes = used; numbers = numbers }) cells cells' bytes bytes' s t
took_all {code} {ks} {i} {used} {numbers} {cells} {cells'} {bytes} {bytes'} {s} {t} long is m =
    let n = subst (λ x. Midway code ks x used numbers cells cells' bytes bytes' s t) is m in
    record {
      room = omega (arith, n.room);
      took = subst (λ l. Took code l (items (length ks) cells' bytes') s t) (take_all (length ks) ks (omega arith)) n.took;
      bytes_used = n.used_is;
      numbers = n.numbers_is;
      fits = n.fits;
      other_cells = n.other_cells;
      other_bytes = n.other_bytes;
    }
