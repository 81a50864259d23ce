-- A target's path and query, and the texts of a path's segments.
use Rattle.std.specs.Prelude.{ℕ, ◌==◌, List, Option, Some, None, option_and_then, if◌then◌else◌}
use Rattle.std.specs.List.{before_first, after_first}
use Rattle.std.specs.Str.{is_utf8}
use Rattle.percent_encoding.specs.Percent.{percent_decode}
use Rattle.reg_core.specs.Subjects.{is_subject}
use Rattle.reg_routes.specs.PathSegments.{segment_at}

-- the bytes before the first `?`, or all without it (RFC 9110, section 7.1; RFC 3986, section 3.3)
abbrev pub path_of : List ℕ → List ℕ
path_of target = before_first (λ byte. byte == 63) target

-- the bytes after the first `?`, or none without it (RFC 3986, section 3.4)
abbrev pub query_of : List ℕ → List ℕ
query_of target = after_first (λ byte. byte == 63) target

-- the bytes if they are UTF-8
abbrev pub valid_utf8 : List ℕ → Option (List ℕ)
valid_utf8 bytes = if is_utf8 bytes then Some bytes else None

-- the text of a segment, percent-decoded once (RFC 3986, section 2.1); `None` if the result isn't UTF-8
abbrev pub decoded_segment : List ℕ → Option (List ℕ)
decoded_segment segment = valid_utf8 (percent_decode segment)

-- the percent-decoded text of the segment after this number of slashes, empty if the path has fewer; `None` if the decoded bytes aren't UTF-8
abbrev pub segment_text : ℕ → List ℕ → Option (List ℕ)
segment_text slashes path = decoded_segment (segment_at slashes path)

-- the text if it is a valid subject
abbrev pub valid_subject : List ℕ → Option (List ℕ)
valid_subject text = if is_subject text then Some text else None

-- the subject in the segment after this number of slashes; `None` if the decoded segment is no valid subject
abbrev pub segment_subject : ℕ → List ℕ → Option (List ℕ)
segment_subject slashes path = option_and_then valid_subject (segment_text slashes path)
