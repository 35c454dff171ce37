-- Bytes and items that were laid behind others. Assumes nothing.
use Rattle.std.proofs.Common.{◌≡◌, ℕ, ◌+◌, ◌≤◌, List, [], ◌∷◌, ◌++◌, map, length, take, drop, refl, ap, ◌∙◌, arith}
use Rattle.std.specs.List.{AllByRecursion}
use Rattle.std.proofs.ByRecursion.{All-push, All-weaker}
use Rattle.std.proofs.lemmas.List.{length-append, length-drop, drop-append-le, take-append-le, map-append}
use Rattle.carrier.specs.Items.{run, fixed}
use Rattle.carrier.specs.declared.Item.TheVariants.{Truth, Whole, Single, Double, Run, Fixed}
use Rattle.transfer.specs.Cells.{Cell, within, read, Below}
use Rattle.transfer.specs.declared.cells.Span.{Span}
use Rattle.script.specs.Laying.{Grown}

below_more : (m n : ℕ) (c : Cell) → m ≤ n → Below m c → Below n c
below_more m n (Truth b) h k = tt
below_more m n (Whole z) h k = tt
below_more m n (Single x) h k = tt
below_more m n (Double x) h k = tt
below_more m n (Run s) h k = omega arith
below_more m n (Fixed s) h k = omega arith

grown_length : (before after : List ℕ) → Grown before after → length before ≤ length after
grown_length before after g = omega (arith, ap length g, length-append before (drop (length before) after))

within_front : (before more : List ℕ) (s : Span) → s.start + s.len ≤ length before → within (before ++ more) s ≡ within before s
within_front before more s h =
    ap (take s.len) (drop-append-le s.start before more (omega arith))
    ∙ take-append-le s.len (drop s.start before) more (simp length-drop (omega arith))

within_grown : (before after : List ℕ) (s : Span) → Grown before after → s.start + s.len ≤ length before → within after s ≡ within before s
within_grown before after s g h = ap (λ l. within l s) g ∙ within_front before (drop (length before) after) s h

read_grown : (before after : List ℕ) (c : Cell) → Grown before after → Below (length before) c → read after c ≡ read before c
read_grown before after (Truth b) g h = refl
read_grown before after (Whole z) g h = refl
read_grown before after (Single x) g h = refl
read_grown before after (Double x) g h = refl
read_grown before after (Run s) g h = ap run (within_grown before after s g h)
read_grown before after (Fixed s) g h = ap fixed (within_grown before after s g h)

-- the cells that were there are read as before
reads_grown : (before after : List ℕ) (cs : List Cell) → Grown before after → AllByRecursion (Below (length before)) cs → map (read after) cs ≡ map (read before) cs
reads_grown before after [] g h = refl
reads_grown before after (c ∷ cs) g h = ap (λ x. x ∷ map (read after) cs) (read_grown before after c g h.0) ∙ ap (λ l. read before c ∷ l) (reads_grown before after cs g h.1)

module _ (before after : List ℕ) (cells : List Cell) (c : Cell) (grown : Grown before after) (low : AllByRecursion (Below (length before)) cells) where
  pub reads_more : map (read after) (cells ++ c ∷ []) ≡ map (read before) cells ++ read after c ∷ []
  reads_more = map-append (read after) cells (c ∷ []) ∙ ap (λ l. l ++ read after c ∷ []) (reads_grown before after cells grown low)

  pub below_push : Below (length after) c → AllByRecursion (Below (length after)) (cells ++ c ∷ [])
  below_push h = All-push (Below (length after)) cells c (All-weaker (Below (length before)) (Below (length after)) (λ d. below_more (length before) (length after) d (grown_length before after grown)) cells low) h
