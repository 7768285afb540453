use Rattle.nfs_types.specs.declared.status.Status.TheVariants as status
use Rattle.nfs_spec.proofs.ModelLemmas.Failures.{no_answer, io_is, server_fault_is, unsupported_is}
use Rattle.nfs_spec.proofs.model.setattr.a_setattr_tells_no_failure.Goals as goal

pub returns : goal.returns
returns c = record {
  io = no_answer status.Io io_is;
  server_fault = no_answer status.ServerFault server_fault_is;
  unsupported = no_answer status.NotSupp unsupported_is;
}
