use Rattle.std.proofs.Common.{◌∙◌, rules, tests}
use Rattle.std.specs.Str.{bytes_eq}
use Rattle.std.proofs.lemmas.Iterator.{YieldsList-from_slice}
use Rattle.std.proofs.lemmas.Iterator.Search.{find_from_yields_List}
use Rattle.spelling.proofs.names.pick.Goals as goal

pub returns : goal.returns
returns g c = record {
  first_so_called =
      c.copied.ensures
      ∙ find_from_yields_List (λ x. bytes_eq c.args.word.now (g.T.Named.called x)) _ _ _ c.find.ensures.ran (YieldsList-from_slice c.args.all.now cc) (λ x b q k. search (rules, tests));
}
