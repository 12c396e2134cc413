-- Which bytes a JSON string contains as they are (RFC 8259, section 7): for private clauses, nothing to believe.
use Rattle.std.specs.Prelude.{◌==◌, ◌&&◌, ℕ, Bool, not, nat_le}

-- neither a control character, nor `"`, nor `\`
abbrev pub is_plain : ℕ → Bool
is_plain byte = nat_le 32 byte && not (byte == 34) && not (byte == 92)
