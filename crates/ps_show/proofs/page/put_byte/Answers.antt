use Rattle.std.proofs.Common.{sym, ap, ◌∙◌, arith, [], ◌∷◌, length, length-append}
use Rattle.ps_show.proofs.PagesAreJoined.{adds_behind_fault, adds_too_much, adds_bytes}
use Rattle.ps_show.proofs.page.put_byte.Goals as goal

pub returns-then-is_some : goal.returns-then-is_some
returns-then-is_some c = adds_behind_fault c.args.page.now (c.args.byte ∷ []) (sym c.is_some.ensures ∙ c.if-is_some.true)

pub returns-then-len-ge-MOST : goal.returns-then-len-ge-MOST
returns-then-len-ge-MOST c = adds_too_much c.args.page.now c.args.page.now.bytes (c.args.byte ∷ []) (sym c.is_some.ensures ∙ c.if-is_some.false) (omega arith)

pub returns-in-Ok : goal.returns-in-Ok
returns-in-Ok c = adds_bytes c.args.page.now c.push.new.self (c.args.byte ∷ []) (sym c.is_some.ensures ∙ c.if-is_some.false) c.in-Ok.ensures.ok (let e = ap length c.in-Ok.ensures.ok in omega (arith, length-append c.args.page.now.bytes (c.args.byte ∷ [])))
