-- Published codes. Assumes nothing.
use Rattle.std.specs.Prelude.{◌≡◌, [], ◌∷◌, pos, negsuc, refl}
use Rattle.carrier.specs.Items.{whole, run}
use Rattle.carrier.specs.Lists.{codes}
use Rattle.avro.specs.Avro.{avro, groups}

pub record Published : Type 0 where
  pub minus_one : avro (whole (negsuc 0)) ≡ 0x01 ∷ []
  pub sixty_four : avro (whole (pos 64)) ≡ 0x80 ∷ 0x01 ∷ []
  -- a label: schema number 1, lot "A7", expiry day 20000
  pub label : codes avro (whole (pos 1) ∷ run (0x41 ∷ 0x37 ∷ []) ∷ whole (pos 20000) ∷ []) ≡ 0x02 ∷ 0x04 ∷ 0x41 ∷ 0x37 ∷ 0xC0 ∷ 0xB8 ∷ 0x02 ∷ []

pub published : Published
unfolding groups
published = record { minus_one = refl; sixty_four = refl; label = refl }
