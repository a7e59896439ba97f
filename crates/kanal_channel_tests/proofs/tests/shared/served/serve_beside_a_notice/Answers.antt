use Rattle.kanal_state.specs.HistoryRelations.{nothing_told, nothing_sound}
use Rattle.kanal_state.proofs.Settling.{noted_settled}
use Rattle.kanal_channel_tests.proofs.tests.shared.served.serve_beside_a_notice.Goals as goal

pub unlock_tried-reply-requires : goal.unlock_tried-reply-requires
unlock_tried-reply-requires g c = record { seen = noted_settled nothing_told nothing_sound tt tt _ c.call-made.result c.call-made.ensures.noted }
