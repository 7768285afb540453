-- A side of a file may be given to another thread.
use denote.RattleType.{RattleType}
use denote.Param.Send.{IsSend, IsSync, recorded_send, sendable, struct_send}
use denote.Struct.Declared
use Rattle.std.proofs.Crossing.{crosses}
use Rattle.disk.proofs.block.Side.TheSendSync as side
use Rattle.disk_file.proofs.file.extent.Extent.TheSendSync as extent
use Rattle.disk_file.specs.contracts.file.ports.FilePort
use Rattle.server.proofs.startup.serve_opened.Goals as goal

port_send : (F : RattleType) → IsSend F → IsSync F → IsSend (FilePort.the_row F)
port_send F send sync = recorded_send (FilePort.the_field F).row _ _ (FilePort.the_type F).to_one
    (struct_send (Declared.shape (FilePort.the_type F)) (
      search (send, sync, crosses, sendable) depth 20,
      (
        search (crosses, sendable) depth 20,
        (
          side.the_field_send,
          (
            extent.the_field_send,
            (search (crosses, sendable) depth 20, (search (crosses, sendable) depth 60, tt)),
          ),
        ),
      ),
    ))

pub serve-requires-send-P : goal.serve-requires-send-P
serve-requires-send-P g c κs within = search (port_send, c.type_bounds, sendable) depth 60
