-- The segments of a path, between its slashes (RFC 3986, section 3.3).
use Rattle.std.specs.Prelude.{ℕ, ◌==◌, zero, suc, List}
use Rattle.std.specs.List.{before_first, after_first}

-- the bytes before the first slash, or all without a slash
abbrev pub before_slash : List ℕ → List ℕ
before_slash bytes = before_first (λ byte. byte == 47) bytes

-- the bytes after the first slash, or none without a slash
abbrev pub after_slash : List ℕ → List ℕ
after_slash bytes = after_first (λ byte. byte == 47) bytes

-- the segment after this number of slashes; no bytes if the path has fewer
abbrev pub segment_at : ℕ → List ℕ → List ℕ
segment_at zero bytes = before_slash bytes
segment_at (suc slashes) bytes = segment_at slashes (after_slash bytes)
