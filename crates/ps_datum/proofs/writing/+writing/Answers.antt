use Rattle.std.proofs.Common.{sym, ap, ◌∙◌, map, List, [], ◌≤◌, subst, arith}
use denote.Param.Weighed.{most, at_most}
use Rattle.ps_datum.proofs.datum.Datum.TheLaws.{the_size}
use Rattle.std.proofs.lemmas.Option.{get_or_from_slice_get}
use Rattle.ps_datum.specs.declared.datum.Datum.{Datum}
use Rattle.ps_datum.specs.Writing.{written, spaced}
use Rattle.ps_datum.specs.InsideWriting.{kind_written}
use Rattle.ps_datum.proofs.TextsComeByParts.{adds_then, adds_part, adds_text, part_known, of_symbol, of_list, of_vector, of_dotted}
use Rattle.ps_datum.proofs.writing.+writing.Goals as goal

pub put_kind-returns-in-List : goal.put_kind-returns-in-List
put_kind-returns-in-List t c =
    adds_text (sym (ap (kind_written c.args.names.now) c.in-List.is ∙ of_list c.args.names.now c.in-List.items))
    (adds_then (adds_then c.put_byte-so_far.ensures (adds_text (ap (λ (xs : List Datum). spaced (map (written c.args.names.now) xs)) c.as_slice-in-List.ensures) c.put_items-so_far.ensures)) c.put_byte.ensures)

pub put_kind-returns-in-Vector : goal.put_kind-returns-in-Vector
put_kind-returns-in-Vector t c =
    adds_text (sym (ap (kind_written c.args.names.now) c.in-Vector.is ∙ of_vector c.args.names.now c.in-Vector.items))
    (adds_then (adds_then c.put-so_far-in-Vector.ensures (adds_text (ap (λ (xs : List Datum). spaced (map (written c.args.names.now) xs)) c.as_slice-in-Vector.ensures) c.put_items-so_far-in-Vector.ensures)) c.put_byte-in-Vector.ensures)

pub put_kind-returns-in-Dotted : goal.put_kind-returns-in-Dotted
put_kind-returns-in-Dotted t c =
    adds_text (sym (ap (kind_written c.args.names.now) c.in-Dotted.is ∙ of_dotted c.args.names.now c.in-Dotted.items c.in-Dotted.tail))
    (adds_then (adds_then (adds_then
    (adds_then c.put_byte-so_far-in-Dotted.ensures (adds_text (ap (λ (xs : List Datum). spaced (map (written c.args.names.now) xs)) c.as_slice-in-Dotted.ensures) c.put_items-so_far-in-Dotted.ensures))
    c.put-so_far.ensures) (adds_text (ap (written c.args.names.now) c.get.ensures) c.put_datum-so_far.ensures)) c.put_byte-in-Dotted.ensures)

pub put_kind-returns-in-Symbol : goal.put_kind-returns-in-Symbol
put_kind-returns-in-Symbol t c =
    adds_text (sym (ap (kind_written c.args.names.now) c.in-Symbol.is ∙ of_symbol c.args.names.now c.in-Symbol.name ∙ get_or_from_slice_get c.args.names.now c.in-Symbol.name.0 c.text.result.now [] c.text.ensures)) c.put-in-Symbol.ensures

pub put_items-loop-i-preserved : goal.put_items-loop-i-preserved
put_items-loop-i-preserved t c = λ u r h.
    c.loop-i.invariant u r (adds_part (written c.args.names.now) c.loop-i.i c.args.items.now c.index-items-i.result c.loop-i-test.true c.index-items-i.is c.put_space-so_far.ensures c.put_datum-so_far.ensures h)

pub put_items-put_datum-so_far-requires : goal.put_items-put_datum-so_far-requires
put_items-put_datum-so_far-requires t c =
    let smaller : the_size c.index-items-i.result ≤ most the_size c.args.items.now = subst (λ (d : Datum). the_size d ≤ most the_size c.args.items.now) (sym c.index-items-i.is) (at_most the_size c.args.items.now c.loop-i.i c.index-items-i.result c.loop-i-test.true) in
    (omega arith, part_known c.args.names.now c.args.items.now c.loop-i.i c.index-items-i.result c.requires c.loop-i-test.true c.index-items-i.is)
