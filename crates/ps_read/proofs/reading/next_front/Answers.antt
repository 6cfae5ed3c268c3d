use Rattle.std.proofs.Common.{length, drop, ap, sym, subst, ◌∙◌, arith}
use Rattle.std.specs.Prelude.{slice_index}
use Rattle.ps_read.specs.Lexical.{resolved, noted}
use Rattle.ps_read.specs.Reading.{AreNames}
use Rattle.ps_read.proofs.NamesAreIdentifiers.{noted_names}
use Rattle.ps_read.proofs.TokensComeByFronts.{next_is, noted_within}
use Rattle.ps_read.proofs.TablesOnlyGrow.{grown_front}
use Rattle.ps_read.proofs.reading.next_front.Goals as goal

pub returns-clause-within : goal.returns-clause-within
returns-clause-within c = next_is c.args.names.now c.args.text.now c.in_ok-front.front c.requires.some (c.in_ok-front.ensures.value ∙ ap (resolved c.args.names.now) c.in_ok-raw.ensures)

pub returns-clause-names_len : goal.returns-clause-names_len
returns-clause-names_len c = let e = ap length c.in_ok-front.ensures.noted in omega (arith, noted_within c.args.names.now c.in_ok-raw.raw, e)

pub returns-clause-identifiers : goal.returns-clause-identifiers
returns-clause-identifiers c = λ are. subst AreNames (sym (c.in_ok-front.ensures.noted ∙ ap (noted c.args.names.now) c.in_ok-raw.ensures)) (noted_names c.args.names.now (slice_index c.args.text.now 0) (drop 1 c.args.text.now) are)

pub returns-clause-kept : goal.returns-clause-kept
returns-clause-kept c = grown_front c.args.names.now _ c.in_ok-raw.raw c.in_ok-front.ensures.noted
