-- A statement that assigns begins with its target.
-- For: put_move, put_operation, put_read, put_write, put_call
use Rattle.std.proofs.Common.{◌≡◌, ℕ, List, ◌++◌, append_assoc}
use Rattle.std.specs.Prelude.{codes, decimal}
use Rattle.ps_base.specs.Texts.{◌&◌}
use Rattle.ps_base.proofs.Writing.{join_assoc}

-- the target, and then what it is given
pub target_then : (k : ℕ) (rest : List ℕ) → codes "  v" & (decimal k & (codes " = " & rest)) ≡ (codes "  v" & (decimal k & codes " = ")) & rest
target_then k rest = simp join_assoc

-- the target, and then a word that ends the statement
pub target_word : (k : ℕ) (word : List ℕ) → codes "  v" & (decimal k & (codes " = " ++ word)) ≡ (codes "  v" & (decimal k & codes " = ")) & word
unfolding ◌&◌
target_word k word = simp append_assoc

-- the target, a word, and then the rest of the statement
pub target_word_then : (k : ℕ) (word rest : List ℕ) → codes "  v" & (decimal k & ((codes " = " ++ word) & rest)) ≡ (codes "  v" & (decimal k & codes " = ")) & (word & rest)
unfolding ◌&◌
target_word_then k word rest = simp append_assoc
