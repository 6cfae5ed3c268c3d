-- With no event added the events are those that were there.
-- For: tell
use Rattle.std.proofs.Common.{◌≡◌, List, [], ◌++◌, sym}
use Rattle.std.proofs.lemmas.List.{append-nil}

pub and_nothing : {A : Type 0} (xs : List A) → xs ≡ xs ++ []
and_nothing xs = sym (append-nil xs)
