-- What comes of the fault of a store. No public clause cites this file.
use Rattle.byte_store.specs.declared.fault.StoreFault.{StoreFault}
use Rattle.byte_store.specs.declared.fault.StoreFault.TheVariants as faults
use Rattle.ps_prims.specs.declared.outcome.PrimOut.{PrimOut}
use Rattle.ps_prims.specs.declared.outcome.PrimOut.TheVariants as out

abbrev pub fault_out : StoreFault → PrimOut
fault_out (faults.Undefined op) = out.Undefined op
fault_out faults.NoMemory = out.NoMemory
