-- What the threads share may be shared among them.
use denote.RattleType.{RattleType}
use denote.Param.Send.{IsSend, IsSync, recorded_send, recorded_sync, sendable, struct_send, struct_sync, view_send}
use denote.Struct.Declared
use Rattle.std.proofs.Crossing.{crosses}
use Rattle.std.proofs.sync.ledger.Book.TheSendSync as book
use Rattle.std.proofs.sync.ledger.Share.TheSendSync as share
use Rattle.std.specs.contracts.alloc.Global
use Rattle.std.specs.contracts.impls.GlobalAllocator.TheImpl
use Rattle.std.specs.contracts.sync.Arc
use Rattle.std.specs.declared.sync.ledger.Ledger
use Rattle.crossbeam_channel.proofs.channel.Receiver.TheSendSync as receiver
use Rattle.crossbeam_channel.proofs.channel.Sender.TheSendSync as sender
use Rattle.http_server.proofs.log.Log.TheSendSync as logs
use Rattle.procs.proofs.planner.Planner.TheSendSync as planner
use Rattle.locks.proofs.table.Table.TheSendSync as table
use Rattle.objects.proofs.object.Object.TheSendSync as object
use Rattle.objects.proofs.residency.Residency.TheSendSync as residency
use Rattle.wal.proofs.memory.Wal.TheSendSync as wal
use Rattle.disk.specs.declared.Port
use Rattle.nfs_types.specs.contracts.reply.Reply
use Rattle.procs.specs.contracts.done.Done
use Rattle.procs.specs.contracts.done.Done.TheInside as done
use Rattle.procs.specs.contracts.done.DoneChange.TheImpl as change
use Rattle.procs.specs.contracts.next.Plan
use Rattle.procs.specs.contracts.untested_plan.UntestedPlan
use Rattle.procs.specs.contracts.untested_plan.UntestedPlan.TheInside as untested
use Rattle.procs.specs.contracts.untested_plan.UntestedPlanParts
use Rattle.txn.specs.contracts.transactions.Core
use Rattle.nfs_types.proofs.call.Call.TheSendSync as call
use Rattle.nfs_types.proofs.ctx.Credential.TheSendSync as credential
use Rattle.nfs_types.proofs.ctx.Ctx.TheSendSync as ctx
use Rattle.nfs_types.proofs.reply.Reply.TheSendSync as reply
use Rattle.store_promise.proofs.lock_requests.LockRequest.TheSendSync as lock_request
use Rattle.store_promise.proofs.answers.CallAnswer.TheSendSync as given
use Rattle.store_promise.proofs.answers.Entry.TheSendSync as entry
use Rattle.txn.proofs.tx.FetchIo.TheSendSync as fetch
use Rattle.txn.proofs.tx.Tx.TheSendSync as tx
use Rattle.pool.proofs.step_result.StepResult.TheSendSync as step_result
use Rattle.pool.proofs.Caller.TheSendSync as callers
use Rattle.pool.specs.contracts.Connections
use Rattle.pool.specs.contracts.IoSeat
use Rattle.pool.specs.contracts.Job
use Rattle.pool.specs.contracts.in_flight.CallInFlight
use Rattle.pool.specs.contracts.in_flight.CallInFlight.TheInside as in_flight
use Rattle.pool.specs.contracts.locked.Locked
use Rattle.pool.specs.contracts.seat.Seat
use Rattle.pool.specs.contracts.shared.Shared
use Rattle.pool.specs.contracts.work.Work
use Rattle.pool.specs.contracts.work.Work.TheInside as work
use Rattle.pool.specs.declared.Whole
use Rattle.store_workers.specs.contracts.workers.Worker
use Rattle.store_workers.specs.contracts.workers.parts.State
use Rattle.store_workers.specs.contracts.workers.prepared.Prepared
use Rattle.store_workers.specs.contracts.workers.prepared.Prepared.TheInside as prepared
use Rattle.server_connection.specs.contracts.connection.Connection
use Rattle.server.specs.contracts.state.ServerState
use Rattle.server.specs.contracts.state.Synchronization
use Rattle.server.specs.contracts.jobs.Jobs
use Rattle.server.proofs.Connections.{answer_send, connection_send, connection_sync}

job_send : IsSend Job.the_row
job_send = recorded_send Job.the_field.row _ _ Job.the_type.to_one (struct_send (Declared.shape Job.the_type) (
  search sendable,
  (
    search sendable,
    (
      search sendable,
      (credential.the_field_send, (call.the_field_send, (search (crosses, sendable) depth 20, tt))),
    ),
  ),
))

jobs_sync : IsSync (Jobs.the_field).row
jobs_sync = struct_sync (Declared.shape Jobs.the_type) (
  search (job_send, sender.the_sync, crosses, sendable) depth 60 fits 20000,
  (search (job_send, receiver.the_sync, crosses, sendable) depth 60 fits 20000, tt),
)

parts_send : IsSend UntestedPlanParts.the_row
parts_send =
    recorded_send UntestedPlanParts.the_field.row _ _ UntestedPlanParts.the_type.to_one
    (struct_send (Declared.shape UntestedPlanParts.the_type) (
      search (crosses, sendable) depth 60 fits 20000,
      (
        search (crosses, sendable) depth 60 fits 20000,
        (
          reply.the_field_send,
          (
            search (object.the_send, crosses, sendable) depth 60 fits 20000,
            (
              search (object.the_send, crosses, sendable) depth 60 fits 20000,
              (search (crosses, sendable) depth 20, (search (crosses, sendable) depth 20, tt)),
            ),
          ),
        ),
      ),
    ))

untested_send : IsSend UntestedPlan.the_row
untested_send = view_send _ _ _ _ _ (recorded_send untested.the_field.row _ _ untested.the_type.to_one
    (struct_send (Declared.shape untested.the_type) (search (parts_send, crosses, sendable) depth 60 fits 20000, tt)))

done_send : IsSend Done.the_row
done_send = view_send _ _ _ _ _ (recorded_send done.the_field.row _ _ done.the_type.to_one
    (struct_send (Declared.shape done.the_type) (search (untested_send, crosses, sendable) depth 60 fits 20000, tt)))

plan_send : IsSend Plan.the_row
plan_send = search (done_send, crosses, sendable) depth 60 fits 20000

state_send : IsSend State.the_field.row
state_send = search (
  reply.the_send,
  call.the_field_send,
  ctx.the_field_send,
  planner.the_send,
  lock_request.the_send,
  entry.the_send,
  given.the_send,
  tx.the_send,
  fetch.the_send,
  crosses,
  sendable,
) depth 60 fits 20000

prepared_send : IsSend Prepared.the_row
prepared_send = view_send _ _ _ _ _ (recorded_send prepared.the_field.row _ _ prepared.the_type.to_one
    (struct_send (Declared.shape prepared.the_type) (
      search (state_send, crosses, sendable) depth 60 fits 20000,
      (search (plan_send, crosses, sendable) depth 60 fits 20000, tt),
    )))

worker_send : IsSend Worker.the_field.row
worker_send = struct_send (Declared.shape Worker.the_type) (
  search (prepared_send, crosses, sendable) depth 60 fits 20000,
  tt,
)

core_send : IsSend (Core.the_row Done.the_row Reply.the_row change.ghosts)
core_send =
    search (wal.the_send, table.the_send, residency.the_send, logs.the_send, crosses, sendable) depth 100 fits 100000

in_flight_send : (L : RattleType) (l : Ledger.Ghosts L.Denot) → IsSend (CallInFlight.the_row L l)
in_flight_send L l = view_send _ _ _ _ _ (recorded_send (in_flight.the_field L l).row _ _ (in_flight.the_type L l).to_one
    (struct_send (Declared.shape (in_flight.the_type L l)) (
      search (crosses, sendable) depth 60 fits 20000,
      (
        search (crosses, sendable) depth 60 fits 20000,
        (search (answer_send L l, crosses, sendable) depth 60 fits 20000, tt),
      ),
    )))

work_send : (L : RattleType) (l : Ledger.Ghosts L.Denot) → IsSend (Work.the_row L l)
work_send L l = view_send _ _ _ _ _ (recorded_send (work.the_field L l).row _ _ (work.the_type L l).to_one
    (struct_send (Declared.shape (work.the_type L l)) (
      search (worker_send, crosses, sendable) depth 60 fits 20000,
      (search (in_flight_send L l, crosses, sendable) depth 20, (step_result.the_field_send, tt)),
    )))

seat_send : (L S : RattleType) (l : Ledger.Ghosts L.Denot) → IsSend S → IsSend (Seat.the_row L S l)
seat_send L S l s =
    recorded_send (Seat.the_field L S l).row _ _ (Seat.the_type L S l).to_one
    (struct_send (Declared.shape (Seat.the_type L S l)) (
      search (work_send L l, crosses, sendable) depth 60 fits 20000,
      (share.the_send L l, (search (s, crosses, sendable) depth 20, tt)),
    ))

module _ (L : RattleType) (l : Ledger.Ghosts L.Denot) where
  pub listed_send : IsSend (Arc.the_row (Connection.the_row L l) Global.the_row TheImpl.ghosts)
  listed_send = search (connection_send L l, connection_sync L l, crosses, sendable) depth 60 fits 20000

  open_send : IsSend (Connections.the_row (Arc.the_row (Connection.the_row L l) Global.the_row TheImpl.ghosts))
  open_send = search (listed_send, crosses, sendable) depth 60 fits 20000

  synchronization_sync : IsSync (Synchronization.the_field L l).row
  synchronization_sync = struct_sync (Declared.shape (Synchronization.the_type L l)) (
    search (crosses, sendable) depth 40 fits 20000,
    (
      jobs_sync,
      (
        search (crosses, sendable) depth 40 fits 20000,
        (
          search (crosses, sendable) depth 40 fits 20000,
          (
            search (crosses, sendable) depth 40 fits 20000,
            (
              search (crosses, sendable) depth 40 fits 20000,
              (
                search (open_send, crosses, sendable) depth 40 fits 20000,
                (
                  search (crosses, sendable) depth 40 fits 20000,
                  (
                    search (crosses, sendable) depth 40 fits 20000,
                    (search (crosses, sendable) depth 40 fits 20000, tt),
                  ),
                ),
              ),
            ),
          ),
        ),
      ),
    ),
  )

io_seat_send : (G P : RattleType) (w : Whole.Ghosts G.Denot) (p : Port.Ghosts P.Denot) (l : Ledger.Ghosts G.Denot)
    → IsSend P → IsSend (IoSeat.the_row G P w p l)
io_seat_send G P w p l port =
    recorded_send (IoSeat.the_field G P w p l).row _ _ (IoSeat.the_type G P w p l).to_one
    (struct_send (Declared.shape (IoSeat.the_type G P w p l)) (
      callers.the_field_send,
      (
        share.the_send G l,
        (
          search (crosses, sendable) depth 60 fits 20000,
          (search (crosses, sendable) depth 60 fits 20000, (search (port, crosses, sendable) depth 20, tt)),
        ),
      ),
    ))

module _ (L G I : RattleType) (w : Whole.Ghosts G.Denot) (w' : Whole.Ghosts I.Denot)
    (l : Ledger.Ghosts L.Denot) (l' : Ledger.Ghosts G.Denot) (l'' : Ledger.Ghosts I.Denot) where
  locked_send : IsSend (Locked.the_row L G I w w' l l' l'')
  locked_send =
      recorded_send (Locked.the_field L G I w w' l l' l'').row _ _ (Locked.the_type L G I w w' l l' l'').to_one
      (struct_send (Declared.shape (Locked.the_type L G I w w' l l' l'')) (
        search (core_send, crosses, sendable) depth 60 fits 20000,
        (
          search (book.the_send, sendable) depth 60,
          (search (book.the_send, sendable) depth 60, (search (book.the_send, sendable) depth 60, tt)),
        ),
      ))

  shared_sync : IsSync (Shared.the_field L G I w w' l l' l'').row
  shared_sync = struct_sync (Declared.shape (Shared.the_type L G I w w' l l' l'')) (
    search (locked_send, crosses, sendable) depth 60 fits 20000,
    tt,
  )

  pub server_sync : (P S : RattleType) (p : Port.Ghosts P.Denot) → IsSend P → IsSend S
      → IsSync (ServerState.the_row L G I P S w w' p l l' l'')
  server_sync P S p port source =
      let seat = seat_send L S l source in
      let logger = io_seat_send G P w p l' port in
      let installer = io_seat_send I P w' p l'' port in
      recorded_sync (ServerState.the_field L G I P S w w' p l l' l'').row _ _ (ServerState.the_type L G I P S w w' p l l' l'').to_one
      (struct_sync (Declared.shape (ServerState.the_type L G I P S w w' p l l' l'')) (
        search (crosses, sendable) depth 20,
        (
          search (shared_sync, crosses, sendable) depth 20,
          (
            search (seat, crosses, sendable) depth 20,
            (
              search (logger, crosses, sendable) depth 20,
              (search (installer, crosses, sendable) depth 20, (synchronization_sync L l, tt)),
            ),
          ),
        ),
      ))
