-- What the program's last stage makes of a number.
use Rattle.std.specs.Prelude.{ℕ, ◌/◌, ◌%◌}
use Rattle.kanal_exchange_run.specs.declared.stages.Digits.{Digits}

-- its tens and its last digit
abbrev pub digits_of : ℕ → Digits
digits_of n = record { tens = n / 10; last = n % 10 }
