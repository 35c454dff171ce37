use Rattle.std.proofs.Common.{[], ◌∷◌, ◌++◌, string_bytes, ap, ◌∙◌}
use Rattle.carrier.specs.Meaning.{datum}
use Rattle.script.specs.Nouns.{noun_name}
use Rattle.print.specs.Printing.{noun_in, value_text}
use Rattle.print.proofs.Adding.{then_adds, pushes}
use Rattle.print.proofs.item.Goals as goal

pub returns-clause-added : goal.returns-clause-added
returns-clause-added c =
    let d = datum c.args.item in
    let r = c.push_str-4.result in
    let s0 = string_bytes c.args.out.now in
    let s1 = string_bytes c.push_str.new.self in
    let s2 = string_bytes c.push_str-2.new.self in
    let s3 = string_bytes c.push_str-3.new.self in
    let s4 = string_bytes c.value.new.out in
    let s5 = string_bytes c.push_str-4.new.self in
    let named = c.in_ok-push_str-2.ensures.bytes ∙ ap (λ l. s1 ++ l) (c.name.ensures ∙ ap noun_name c.noun_of.ensures.its_noun) in
    then_adds r s0 s1 s5 (40 ∷ []) (noun_name (noun_in d) ++ (32 ∷ (value_text d ++ 41 ∷ []))) c.in_ok-push_str.ensures.bytes
    (then_adds r s1 s2 s5 (noun_name (noun_in d)) (32 ∷ (value_text d ++ 41 ∷ [])) named
    (then_adds r s2 s3 s5 (32 ∷ []) (value_text d ++ 41 ∷ []) c.in_ok-push_str-3.ensures.bytes
    (then_adds r s3 s4 s5 (value_text d) (41 ∷ []) c.in_ok-value.ensures.added
    (pushes r s4 s5 (41 ∷ []) c.push_str-4.ensures.bytes))))
