-- What the core sees of the place where its messages lie.
use Rattle.std.specs.Prelude.{[], Some, None}
use Rattle.kanal_core.specs.BufferViews.{BufferView}
use Rattle.kanal_core.specs.declared.internal.buffer.Store.{Store}
use Rattle.kanal_core.specs.declared.internal.buffer.Store.TheVariants.{Nothing, Ring, Deque}

module _ {T : Type 0} where
  -- the messages and the limit of what may be nothing, a ring or a deque
  abbrev pub view_of_store : Store T → BufferView T
  view_of_store Nothing = record { messages = []; limit = Some 0 }
  view_of_store (Ring ring) = record { messages = ring.items; limit = Some ring.capacity }
  view_of_store (Deque deque) = record { messages = deque.items; limit = None }
