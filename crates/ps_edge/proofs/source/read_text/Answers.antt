use Rattle.std.proofs.Common.{◌<◌, ◌≤◌, ◌++◌, length, take, arith, length-append, length-take-le}
use Rattle.ps_edge.proofs.Reading.{taking_join, no_memory}
use Rattle.ps_edge.proofs.source.read_text.Goals as goal

pub returns-then-k-limit : goal.returns-then-k-limit
returns-then-k-limit g c =
    let gave = c.in-Bytes.ensures in
    let text = c.reading.text.items in
    let piece = take c.in-Bytes.k c.read.new.into in
    let more : c.args.limit < length (text ++ piece) = omega (arith, length-append text piece, length-take-le c.in-Bytes.k c.read.new.into gave.1) in
    (text ++ piece, taking_join _ _ _ _ _ c.reading.invariant.taking gave.2, more)

pub returns-in_err-extend_from_slice-in-Bytes : goal.returns-in_err-extend_from_slice-in-Bytes
returns-in_err-extend_from_slice-in-Bytes g c =
    let gave = c.in-Bytes.ensures in
    let text = c.reading.text.items in
    let piece = take c.in-Bytes.k c.read.new.into in
    let within : length (text ++ piece) ≤ c.args.limit = omega (arith, length-append text piece, length-take-le c.in-Bytes.k c.read.new.into gave.1) in
    no_memory _ _ _ _ _ c.from_residual.ensures.1 (taking_join _ _ _ _ _ c.reading.invariant.taking gave.2) within
