-- The length of framed data, as the code computes it.
use Rattle.std.specs.Prelude.{ℕ, ◌+◌, ◌*◌, ◌/◌}

-- eight bytes before each chunk and at the end
abbrev pub framed_length : ℕ → ℕ
framed_length n = n + 8 * ((n + 32767) / 32768) + 8
