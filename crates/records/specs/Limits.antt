-- The limits of a book. Here they are named once for the meaning, as `Book`'s associated constants name them once for the code.
use Rattle.std.specs.Prelude.{ℕ, ◌+◌, ◌*◌}

-- V, the variables, at most.
abbrev pub max_variables : ℕ
max_variables = 48

-- U, the choices, at most.
abbrev pub max_choices : ℕ
max_choices = 32

-- R, the rules, at most.
abbrev pub max_rules : ℕ
max_rules = 128

-- A cost, at most. The least is 1.
abbrev pub max_cost : ℕ
max_cost = 999

-- The literals of one rule, at most.
abbrev pub max_literals : ℕ
max_literals = 8

-- The bytes of one step's record, at most: 7, and a literal for each choice.
abbrev pub max_step_bytes : ℕ
max_step_bytes = max_choices + 7

-- The bytes of the record that ends a log.
abbrev pub ok_size : ℕ
ok_size = 7

-- The bytes of a log, at most: a step for each choice, and the end.
abbrev pub max_log : ℕ
max_log = max_choices * max_step_bytes + ok_size

-- The bytes of a book without windows and facts, at most: HD, CS for each choice, RL for each rule with the most literals, EN.
abbrev pub max_without_facts : ℕ
max_without_facts = 5 + max_choices * 7 + max_rules * (3 + max_literals) + 2

-- The bytes of a WN record.
abbrev pub window_size : ℕ
window_size = 15

-- The bytes of a book, at most: with WN for each rule and FA for each choice besides.
abbrev pub max_book : ℕ
max_book = max_without_facts + max_rules * window_size + max_choices * 3
