use Rattle.ps_base.proofs.Writing.{adds_then}
use Rattle.byte_store.specs.InsideLines.{part_text}
use Rattle.byte_store.proofs.PartsMakeTheLine.{line_parts}
use Rattle.byte_store.proofs.lines.put_line.Goals as goal

pub returns : goal.returns
returns g c =
    rw (line_parts part_text c.args.word.now c.args.parts.now)
    (adds_then _ _ _ _ _ _ _ _ c.put-so_far.ensures (adds_then _ _ _ _ _ _ _ _ c.put_each-so_far.ensures c.put.ensures))
