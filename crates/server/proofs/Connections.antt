-- Answers and connections may be handed among threads, and a connection may be shared by them.
use denote.RattleType.{RattleType}
use denote.Param.Send.{IsSend, IsSync, recorded_send, recorded_sync, sendable, struct_send, struct_sync, view_send}
use denote.Struct.Declared
use Rattle.std.proofs.Crossing.{crosses}
use Rattle.std.specs.declared.sync.ledger.Ledger
use Rattle.http_server.proofs.log.Log.TheSendSync as logs
use Rattle.session_wire.proofs.message.ReplyBody.TheSendSync as body
use Rattle.pool_requests.specs.contracts.answers.answer.Answer
use Rattle.pool_requests.specs.contracts.answers.answer.Answer.TheInside as answer
use Rattle.pool_requests.specs.contracts.answers.backlog.Backlog
use Rattle.pool_requests.specs.contracts.answers.backlog.Backlog.TheInside as backlog
use Rattle.server_connection.specs.contracts.connection.Connection
use Rattle.server_connection.specs.contracts.outbox.Outbox
use Rattle.server_connection.specs.contracts.outbox.Outbox.TheInside as outbox
use Rattle.server_connection.specs.contracts.replies.Replies
use Rattle.server_connection.specs.contracts.replies.Replies.TheInside as replies

module _ (L : RattleType) (l : Ledger.Ghosts L.Denot) where
  pub answer_send : IsSend (Answer.the_row L l)
  answer_send = view_send _ _ _ _ _ (recorded_send (answer.the_field L l).row _ _ (answer.the_type L l).to_one
      (struct_send (Declared.shape (answer.the_type L l)) (
        search (crosses, sendable) depth 20,
        (
          search (crosses, sendable) depth 20,
          (
            search (crosses, sendable) depth 20,
            (
              body.the_field_send,
              (search (crosses, sendable) depth 60 fits 20000, (search (crosses, sendable) depth 20, tt)),
            ),
          ),
        ),
      )))

  backlog_send : IsSend (Backlog.the_row L l)
  backlog_send = view_send _ _ _ _ _ (recorded_send (backlog.the_field L l).row _ _ (backlog.the_type L l).to_one
      (struct_send (Declared.shape (backlog.the_type L l)) (
        search (crosses, sendable) depth 20,
        (
          search (crosses, sendable) depth 20,
          (search (crosses, sendable) depth 20, (search (logs.the_send, crosses, sendable) depth 20, tt)),
        ),
      )))

  replies_send : IsSend (Replies.the_row L l)
  replies_send = view_send _ _ _ _ _ (recorded_send (replies.the_field L l).row _ _ (replies.the_type L l).to_one
      (struct_send (Declared.shape (replies.the_type L l)) (
        search (backlog_send, crosses, sendable) depth 20,
        (search (crosses, sendable) depth 20, tt),
      )))

  outbox_send : IsSend (Outbox.the_row L l)
  outbox_send = view_send _ _ _ _ _ (recorded_send (outbox.the_field L l).row _ _ (outbox.the_type L l).to_one
      (struct_send (Declared.shape (outbox.the_type L l)) (
        search (replies_send, crosses, sendable) depth 20,
        (
          search (crosses, sendable) depth 20,
          (
            search (crosses, sendable) depth 20,
            (search (crosses, sendable) depth 20, (search (crosses, sendable) depth 20, tt)),
          ),
        ),
      )))

  pub connection_send : IsSend (Connection.the_row L l)
  connection_send = recorded_send (Connection.the_field L l).row _ _ (Connection.the_type L l).to_one
      (struct_send (Declared.shape (Connection.the_type L l)) (
        search (crosses, sendable) depth 60 fits 20000,
        (
          search (outbox_send, crosses, sendable) depth 40,
          (search (crosses, sendable) depth 40, (search (crosses, sendable) depth 40, tt)),
        ),
      ))

  pub connection_sync : IsSync (Connection.the_row L l)
  connection_sync = recorded_sync (Connection.the_field L l).row _ _ (Connection.the_type L l).to_one
      (struct_sync (Declared.shape (Connection.the_type L l)) (
        search (crosses, sendable) depth 60 fits 20000,
        (
          search (outbox_send, crosses, sendable) depth 40,
          (search (crosses, sendable) depth 40, (search (crosses, sendable) depth 40, tt)),
        ),
      ))
