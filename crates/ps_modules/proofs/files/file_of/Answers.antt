use Rattle.std.proofs.Common.{rules, ◌≡◌, length, subst}
use Rattle.ps_read.specs.Lexical.{tokens_of}
use Rattle.ps_read.specs.Reading.{Reads, Refuses}
use Rattle.ps_modules.specs.Walking.{counted}
use Rattle.ps_modules.proofs.PartsAreGathered.{file_gathered, file_unread, file_missed}
use Rattle.ps_modules.proofs.files.file_of.Goals as goal

pub returns-in-Ok-read_all : goal.returns-in-Ok-read_all
returns-in-Ok-read_all g c =
    let behind : c.counted-count.result ≡ counted c.args.count (length c.in-Ok.text) = search rules in
    let reads : Reads c.args.names.now c.counted-count.result.number c.in-Ok.text c.in-Ok-read_all.forms c.read_all.new.names
    = subst (λ t. Reads c.args.names.now c.counted-count.result.number t c.in-Ok-read_all.forms c.read_all.new.names) c.as_slice-in-Ok.ensures c.in-Ok-read_all.ensures.read in
    file_gathered _ _ _ _ _ _ _ c.as_slice.ensures _ c.room_of.ensures.is c.requires.taken c.in-Ok.text c.in-Ok.ensures _ behind _ _ reads

pub returns-in-Ok : goal.returns-in-Ok
returns-in-Ok g c =
    let behind : c.counted-count.result ≡ counted c.args.count (length c.in-Ok.text) = search rules in
    let refused : Refuses c.in-Err-read_all.refusal (tokens_of c.args.names.now c.counted-count.result.number c.in-Ok.text)
    = subst (λ t. Refuses c.in-Err-read_all.refusal (tokens_of c.args.names.now c.counted-count.result.number t)) c.as_slice-in-Ok.ensures c.in-Err-read_all.ensures.refused in
    file_unread _ _ _ _ _ _ _ c.as_slice.ensures _ c.room_of.ensures.is c.requires.taken c.in-Ok.text c.in-Ok.ensures _ behind _ refused

pub returns : goal.returns
returns g c = file_missed _ _ _ _ _ _ _ c.as_slice.ensures _ c.room_of.ensures.is c.requires.taken c.in-Err.fault c.in-Err.ensures _ c.refusal_of.ensures
