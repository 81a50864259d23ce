-- Rows as queries return them, whose texts and numbers can be read.
use Rattle.std.specs.Prelude.{◌≡◌, ℕ, ◌<◌, ◌^◌, ℤ, pos, List, [], ◌∷◌, IsUtf8}
use Rattle.sqlite.specs.declared.types.Value.TheVariants.{Int, Text}
use Rattle.sqlite.specs.Order.{Row}
use Rattle.reg_tables.specs.Contents.{VersionEntryView, KeptReplyView, version_cells, kept_cells, IsReadableReply}

pub record IsReadableId (row : Row) : Type 0 where
  pub id : ℕ
  pub is : row ≡ Int (pos id) ∷ []
  pub low : id < 2 ^ 32

pub record IsReadableText (row : Row) : Type 0 where
  pub id : ℕ
  pub text : List ℕ
  pub is : row ≡ Int (pos id) ∷ Int (pos id) ∷ Text text ∷ []
  pub low : id < 2 ^ 32
  pub utf8 : IsUtf8 text

pub record IsReadableVersion (row : Row) : Type 0 where
  pub rowid : ℤ
  pub subject : List ℕ
  pub number : ℕ
  pub version : VersionEntryView
  pub is : row ≡ Int rowid ∷ Text subject ∷ Int (pos number) ∷ version_cells version
  pub utf8 : IsUtf8 subject
  pub low : number < 2 ^ 32
  pub low_id : version.id < 2 ^ 32

pub record IsReadablePair (row : Row) : Type 0 where
  pub rowid : ℤ
  pub key : List ℕ
  pub value : List ℕ
  pub is : row ≡ Int rowid ∷ Text key ∷ Text value ∷ []
  pub key_utf8 : IsUtf8 key
  pub value_utf8 : IsUtf8 value

pub record IsReadableKept (row : Row) : Type 0 where
  pub rowid : ℤ
  pub key : List ℕ
  pub reply : KeptReplyView
  pub is : row ≡ Int rowid ∷ Text key ∷ kept_cells reply
  pub utf8 : IsUtf8 key
  pub readable : IsReadableReply reply

pub record IsReadableEvidence (row : Row) : Type 0 where
  pub rowid : ℤ
  pub subject : List ℕ
  pub number : ℕ
  pub level : List ℕ
  pub is : row ≡ Int rowid ∷ Text subject ∷ Int (pos number) ∷ Text level ∷ []
  pub utf8 : IsUtf8 subject
  pub low : number < 2 ^ 32
  pub level_utf8 : IsUtf8 level

pub record IsReadableAgainst (row : Row) : Type 0 where
  pub rowid : ℤ
  pub subject : List ℕ
  pub number : ℕ
  pub position : ℕ
  pub id : ℕ
  pub is : row ≡ Int rowid ∷ Text subject ∷ Int (pos number) ∷ Int (pos position) ∷ Int (pos id) ∷ []
  pub utf8 : IsUtf8 subject
  pub low : number < 2 ^ 32
  pub low_position : position < 2 ^ 32
  pub low_id : id < 2 ^ 32

pub record IsReadableCount (row : Row) : Type 0 where
  pub count : ℕ
  pub is : row ≡ Int (pos count) ∷ []
