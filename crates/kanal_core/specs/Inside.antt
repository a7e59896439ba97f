-- The fields of the core, read as what contracts see.
use Rattle.std.specs.Prelude.{◌≡◌, ◌<◌, length}
use Rattle.kanal_core.specs.Line.{IsWithin}
use Rattle.kanal_core.specs.Sided.{IsOneSided, Rises}
use Rattle.kanal_core.specs.Channel.{ChannelView}
use Rattle.kanal_core.specs.declared.internal.ChannelInternal.TheInside.{Inside}

module _ {T W : Type 0} where
  -- the core as contracts see it
  abbrev pub channel_of : Inside T W → ChannelView T W
  channel_of c =
      record {
        buffer = c.buffer.messages;
        waiters = c.waiters;
        capacity = c.capacity;
        senders = c.senders;
        receivers = c.receivers;
        next = c.next;
      }

  -- one side waits at most, under rising numbers; the buffer is within the capacity, and has its room while there is a receiver
  pub record IsSound (c : Inside T W) : Type 0 where
    pub side : IsOneSided c.buffer.messages c.capacity c.waiters
    pub rises : Rises 0 c.waiters c.next
    pub within : IsWithin (length c.buffer.messages) c.capacity
    pub room : 0 < c.receivers → c.buffer.limit ≡ c.capacity
