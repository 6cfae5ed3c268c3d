use Rattle.std.proofs.Common.{◌≡◌, [], length, sym, ap, ◌∙◌, rules, arith}
use Rattle.std.proofs.lemmas.Grind.{common_steps}
use Rattle.std.proofs.lemmas.List.{nil_from_length}
use Rattle.ps_read.specs.InsideMachine.{finish}
use Rattle.ps_read.proofs.TokensComeByFronts.{at_end, listed_end}
use Rattle.ps_read.proofs.reading.read_text.Goals as goal

pub returns-in-None : goal.returns-in-None
returns-in-None c =
    let zero_left : length c.loop-rest.rest.now ≡ 0 = first_of (search rules, grind (arith, common_steps)) in
    let all : c.loop-rest.rest.now ≡ [] = nil_from_length c.loop-rest.rest.now zero_left in
    let none : c.loop-rest.stack ≡ [] = search rules in
    let same = sym c.loop-rest.invariant.same ∙ at_end c.loop-rest.names (c.loop-rest.done, c.loop-rest.stack) c.loop-rest.place c.loop-rest.rest.now all ∙ ap (finish c.loop-rest.done) none in
    record { answer = same; listed = listed_end c.loop-rest.names c.loop-rest.rest.now all ∙ c.loop-rest.invariant.table; identifiers = c.loop-rest.invariant.identifiers; kept = c.loop-rest.invariant.kept }

pub returns-in-Some : goal.returns-in-Some
returns-in-Some c =
    let zero_left : length c.loop-rest.rest.now ≡ 0 = first_of (search rules, grind (arith, common_steps)) in
    let all : c.loop-rest.rest.now ≡ [] = nil_from_length c.loop-rest.rest.now zero_left in
    let same = sym c.loop-rest.invariant.same ∙ at_end c.loop-rest.names (c.loop-rest.done, c.loop-rest.stack) c.loop-rest.place c.loop-rest.rest.now all ∙ ap (finish c.loop-rest.done) c.in-Some.ensures in
    record { answer = c.refusal.ensures _ same; listed = tt; identifiers = c.loop-rest.invariant.identifiers; kept = c.loop-rest.invariant.kept }
