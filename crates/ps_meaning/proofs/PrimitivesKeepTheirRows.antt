-- Primitives do on values of first order at run time what they do on them as such.
-- For: `primitives_embed`
use Rattle.std.proofs.Common.{◌≡◌, Option, refl, ap}
use Rattle.byte_store.specs.declared.pointer.Value.{Value}
use Rattle.byte_store.specs.Words.{word_of}
use Rattle.ps_prims.specs.Sorts.{first_order}
use Rattle.ps_prims.specs.Mapping.{SeenAlike}
use Rattle.ps_prims.proofs.RowsAreNatural.{rows_natural}
use Rattle.ps_meaning.specs.declared.values.RunValue.TheVariants.{outs-Plain}
use Rattle.ps_meaning.specs.Values.{RunValue, Plain, run_values, seen_of, word_in}
use Rattle.ps_meaning.specs.Embedding.{PrimitivesEmbed}

-- a value of first order is seen at run time as it is
pub plain_alike : SeenAlike Plain first_order run_values
plain_alike = record { seen = λ v. ap seen_of (outs-Plain v); of = λ u. refl; word = λ v. ap word_in (outs-Plain v) }

pub primitives_run : PrimitivesEmbed
primitives_run = rows_natural Plain first_order run_values plain_alike
