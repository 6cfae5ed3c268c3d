use Rattle.ps_prims.proofs.changes.perform_change.Goals as goal

pub returns-in-VectorSet : goal.returns-in-VectorSet
returns-in-VectorSet g c = rw c.in-VectorSet.is c.perform_vector_set.ensures

pub returns-in-DeallocateVector : goal.returns-in-DeallocateVector
returns-in-DeallocateVector g c = rw c.in-DeallocateVector.is c.perform_deallocate_vector.ensures

pub returns-in-DeallocateMemory : goal.returns-in-DeallocateMemory
returns-in-DeallocateMemory g c = rw c.in-DeallocateMemory.is c.perform_deallocate_memory.ensures

pub returns-in-ByteSet : goal.returns-in-ByteSet
returns-in-ByteSet g c = rw c.in-ByteSet.is c.perform_byte_set.ensures

pub returns-in-WordSet : goal.returns-in-WordSet
returns-in-WordSet g c = rw c.in-WordSet.is c.perform_word_set.ensures
