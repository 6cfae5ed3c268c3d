use Rattle.std.proofs.Common.{◌≡◌, ◌∙◌, ap, sym, map, nat_le, nat_lt}
use Rattle.std.specs.Prelude.{◌&&◌, true, false}
use Rattle.ps_hygiene.specs.Transcriptions.{nesting, deepest, larger}
use Rattle.ps_hygiene.proofs.NestingIsTested.{nesting_list, nesting_vector, nesting_dotted, larger_below, below_within}
use Rattle.ps_hygiene.proofs.extents.+nests.Goals as goal

pub nests_within-returns-in-List : goal.nests_within-returns-in-List
nests_within-returns-in-List t c =
    c.all_nest_below.ensures ∙ ap (λ fs. nat_lt (deepest (map nesting fs)) c.args.levels) c.as_slice.ensures
    ∙ sym (below_within (deepest (map nesting c.in-List.parts)) c.args.levels) ∙ ap (λ d. nat_le d c.args.levels) (sym (nesting_list c.args.form.now c.in-List.parts c.in-List.is))

pub nests_within-returns-in-Vector : goal.nests_within-returns-in-Vector
nests_within-returns-in-Vector t c =
    c.all_nest_below-in-Vector.ensures ∙ ap (λ fs. nat_lt (deepest (map nesting fs)) c.args.levels) c.as_slice-in-Vector.ensures
    ∙ sym (below_within (deepest (map nesting c.in-Vector.parts)) c.args.levels) ∙ ap (λ d. nat_le d c.args.levels) (sym (nesting_vector c.args.form.now c.in-Vector.parts c.in-Vector.is))

pub nests_within-returns-then-all_nest_below : goal.nests_within-returns-then-all_nest_below
nests_within-returns-then-all_nest_below t c =
    let d = deepest (map nesting c.in-Dotted.parts) in
    let parts : nat_lt d c.args.levels ≡ true =
    sym (c.all_nest_below-in-Dotted.ensures ∙ ap (λ fs. nat_lt (deepest (map nesting fs)) c.args.levels) c.as_slice-in-Dotted.ensures) ∙ c.if-all_nest_below.true in
    let last : c.nests_below.result ≡ nat_lt (nesting c.in-Dotted.last) c.args.levels = c.nests_below.ensures ∙ ap (λ f. nat_lt (nesting f) c.args.levels) c.get.ensures in
    last ∙ ap (λ x. x && nat_lt (nesting c.in-Dotted.last) c.args.levels) (sym parts) ∙ sym (larger_below d (nesting c.in-Dotted.last) c.args.levels)
    ∙ sym (below_within (larger d (nesting c.in-Dotted.last)) c.args.levels) ∙ ap (λ d. nat_le d c.args.levels) (sym (nesting_dotted c.args.form.now c.in-Dotted.parts c.in-Dotted.last c.in-Dotted.is))

pub nests_within-returns-else-all_nest_below : goal.nests_within-returns-else-all_nest_below
nests_within-returns-else-all_nest_below t c =
    let d = deepest (map nesting c.in-Dotted.parts) in
    let parts : nat_lt d c.args.levels ≡ false =
    sym (c.all_nest_below-in-Dotted.ensures ∙ ap (λ fs. nat_lt (deepest (map nesting fs)) c.args.levels) c.as_slice-in-Dotted.ensures) ∙ c.if-all_nest_below.false in
    c.if-all_nest_below.false ∙ ap (λ x. x && nat_lt (nesting c.in-Dotted.last) c.args.levels) (sym parts) ∙ sym (larger_below d (nesting c.in-Dotted.last) c.args.levels)
    ∙ sym (below_within (larger d (nesting c.in-Dotted.last)) c.args.levels) ∙ ap (λ d. nat_le d c.args.levels) (sym (nesting_dotted c.args.form.now c.in-Dotted.parts c.in-Dotted.last c.in-Dotted.is))
