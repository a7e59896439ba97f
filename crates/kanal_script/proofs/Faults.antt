-- At status 2 a line can't be read.
use Rattle.kanal_script.proofs.Common.{◌≡◌, ◌⊎◌, ℕ, List, Option, Some, None, IfSome, inl, inr, arith, Unread, NoRoom, IsFirstFault, fault_status, IsReadFault, IsScriptFault}
use Rattle.kanal_script.specs.declared.program.Fault.{Fault}
use Rattle.kanal_script.specs.declared.program.Fault.TheVariants.{Unreadable, NoMemory, Device}

no_read_fault : (number : ℕ) → IsReadFault (Unreadable number) → ⊥
no_read_fault number (inl e) = cc
no_read_fault number (inr e) = cc

of_script : (bytes : List ℕ) (number : ℕ) → IsScriptFault bytes (Unreadable number) → (line : ℕ) × IsFirstFault bytes (Unread line)
of_script bytes number (Unread line, is, first) = (line, first)
of_script bytes number (NoRoom, is, first) = absurd (other is)
  where
    other : Unreadable number ≡ NoMemory → ⊥
    other e = cc

pub unreadable_at_two : (known : Option (List ℕ)) (fault : Fault) → fault_status fault ≡ 2 → IsReadFault fault ⊎ IfSome known (λ bytes. IsScriptFault bytes fault) → IfSome known (λ bytes. (line : ℕ) × IsFirstFault bytes (Unread line))
unreadable_at_two known NoMemory two from = absurd (omega (arith, two))
unreadable_at_two known Device two from = absurd (omega (arith, two))
unreadable_at_two known (Unreadable number) two (inl read) = absurd (no_read_fault number read)
unreadable_at_two None (Unreadable number) two (inr script) = tt
unreadable_at_two (Some bytes) (Unreadable number) two (inr script) = of_script bytes number script
