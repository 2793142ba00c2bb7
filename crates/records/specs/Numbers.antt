-- The numbers that document 02 (E4, E7) names, computed from the limits.
use Rattle.std.specs.Prelude.{◌≡◌, refl}
use Rattle.records.specs.Limits.{max_log, max_without_facts, max_book}

-- The longest log.
pub log_bytes_lem : max_log ≡ 1255
log_bytes_lem = refl

-- The longest book without windows and facts, which is what the buffer of `read_dimacs` must have room for.
pub without_facts_bytes : max_without_facts ≡ 1639
without_facts_bytes = refl

-- The longest book.
pub book_bytes_lem : max_book ≡ 3655
book_bytes_lem = refl
