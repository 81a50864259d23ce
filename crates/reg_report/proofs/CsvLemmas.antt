-- CSV text, one line at a time.
use Rattle.std.proofs.Common.{◌≡◌, ◌∙◌, ◌++◌, ◌∷◌, [], ℕ, List, refl, sym, ap, append_assoc, append-nil, take, drop}
use Rattle.std.proofs.lemmas.List.{take-append-drop}
use Rattle.csv.specs.Writing.{default_writer, row_text}
use Rattle.reg_store.specs.Listings.{Fields}
use Rattle.reg_report.specs.Csv.{csv_text}

-- the text of more lines is appended
csv_text-append : (xs ys : List Fields) → csv_text (xs ++ ys) ≡ csv_text xs ++ csv_text ys
unfolding csv_text
csv_text-append [] ys = refl
csv_text-append (first ∷ xs) ys = ap (λ (text : List ℕ). row_text default_writer first ++ text) (csv_text-append xs ys) ∙ sym (append_assoc (row_text default_writer first) (csv_text xs) (csv_text ys))

-- the text of one line is the line
pub csv_text-one : (line : Fields) → csv_text (line ∷ []) ≡ row_text default_writer line
unfolding csv_text
csv_text-one line = append-nil (row_text default_writer line)

-- the text of one more line is appended
pub csv_text-snoc : (lines : List Fields) (line : Fields) → csv_text (lines ++ line ∷ []) ≡ csv_text lines ++ row_text default_writer line
csv_text-snoc lines line = csv_text-append lines (line ∷ []) ∙ ap (λ (text : List ℕ). csv_text lines ++ text) (csv_text-one line)

-- the text of the first lines is a beginning of the text
pub csv_text-take : (count : ℕ) (lines : List Fields) → csv_text (take count lines) ++ csv_text (drop count lines) ≡ csv_text lines
csv_text-take count lines = sym (csv_text-append (take count lines) (drop count lines)) ∙ ap csv_text (take-append-drop count lines)
