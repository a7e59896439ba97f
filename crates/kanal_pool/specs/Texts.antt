-- The texts of the errors.
use Rattle.std.specs.Prelude.{ℕ, List, codes}
use Rattle.kanal_pool.specs.declared.error.PoolError.{PoolError}
use Rattle.kanal_pool.specs.declared.error.PoolError.TheVariants.{NoWorkers, TooLarge, NoMemory, NoThread, Incomplete}

-- why a pool has no answer
abbrev pub pool_error_text : PoolError → List ℕ
pool_error_text NoWorkers = codes "no workers"
pool_error_text TooLarge = codes "capacity too large"
pool_error_text NoMemory = codes "no memory"
pool_error_text NoThread = codes "no thread"
pool_error_text Incomplete = codes "incomplete"
