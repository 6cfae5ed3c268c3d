use Rattle.ps_prims.proofs.glances.perform_glance.Goals as goal

pub returns-in-IsNullVector : goal.returns-in-IsNullVector
returns-in-IsNullVector g c = rw c.in-IsNullVector.is c.perform_is_null_vector.ensures

pub returns-in-IsNullAddress : goal.returns-in-IsNullAddress
returns-in-IsNullAddress g c = rw c.in-IsNullAddress.is c.perform_is_null_address.ensures

pub returns-in-AddressAdd : goal.returns-in-AddressAdd
returns-in-AddressAdd g c = rw c.in-AddressAdd.is c.perform_address_add.ensures

pub returns-in-AddressDifference : goal.returns-in-AddressDifference
returns-in-AddressDifference g c = rw c.in-AddressDifference.is c.perform_address_difference.ensures

pub returns-in-AddressEqual : goal.returns-in-AddressEqual
returns-in-AddressEqual g c = rw c.in-AddressEqual.is c.perform_address_equal.ensures

pub returns-in-AddressLess : goal.returns-in-AddressLess
returns-in-AddressLess g c = rw c.in-AddressLess.is c.perform_address_less.ensures

pub returns-in-VectorLength : goal.returns-in-VectorLength
returns-in-VectorLength g c = rw c.in-VectorLength.is c.perform_vector_length.ensures
