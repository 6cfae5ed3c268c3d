use Rattle.std.proofs.Common.{sym, ◌∙◌, arith, length-append, ap, length}
use Rattle.ps_datum.specs.Writing.{written}
use Rattle.ps_show.proofs.PagesAreJoined.{adds_behind_fault, adds_too_much, adds_bytes}
use Rattle.ps_show.proofs.literals.put_written.Goals as goal

pub returns-then-is_some : goal.returns-then-is_some
returns-then-is_some c = adds_behind_fault c.args.page.now (written c.args.names.now c.args.d.now) (sym c.is_some.ensures ∙ c.if-is_some.true)

pub returns-then-len-gt-MOST : goal.returns-then-len-gt-MOST
returns-then-len-gt-MOST c = adds_too_much c.args.page.now c.write_datum.new.out (written c.args.names.now c.args.d.now) (sym c.is_some.ensures ∙ c.if-is_some.false) (let e = ap length c.in-Ok.ensures.written in omega (arith, length-append c.args.page.now.bytes (written c.args.names.now c.args.d.now)))

pub returns-else-len-gt-MOST : goal.returns-else-len-gt-MOST
returns-else-len-gt-MOST c = adds_bytes c.args.page.now c.write_datum.new.out (written c.args.names.now c.args.d.now) (sym c.is_some.ensures ∙ c.if-is_some.false) c.in-Ok.ensures.written (omega arith)
