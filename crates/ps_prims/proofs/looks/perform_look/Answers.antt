use Rattle.ps_prims.proofs.looks.perform_look.Goals as goal

pub returns-in-StringLength : goal.returns-in-StringLength
returns-in-StringLength g c = rw c.in-StringLength.is c.perform_string_length.ensures

pub returns-in-StringRef : goal.returns-in-StringRef
returns-in-StringRef g c = rw c.in-StringRef.is c.perform_string_ref.ensures

pub returns-in-VectorRef : goal.returns-in-VectorRef
returns-in-VectorRef g c = rw c.in-VectorRef.is c.perform_vector_ref.ensures

pub returns-in-ByteRef : goal.returns-in-ByteRef
returns-in-ByteRef g c = rw c.in-ByteRef.is c.perform_byte_ref.ensures

pub returns-in-WordRef : goal.returns-in-WordRef
returns-in-WordRef g c = rw c.in-WordRef.is c.perform_word_ref.ensures
