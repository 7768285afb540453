-- Lines that are printed one after another.
use Rattle.std.proofs.Common.{◌+◌, ◌<◌, ◌≤◌, ℕ, sym, ap, subst, ◌≡◌, ◌∙◌, List, [], ◌∷◌, ◌++◌, Option, length, take, get_or}
use Rattle.std.proofs.Common.{Err, Ok, Result}
use Rattle.std.specs.Prelude.{OnOk}
use Rattle.std.proofs.KnownBytes.{Appends-trans}
use Rattle.std.proofs.lemmas.Grind.{flat_map-append}
use Rattle.std.proofs.lemmas.List.{append-nil, take_all, take_more}
use Rattle.std.specs.Io.KnownBytes.{Appends}
use Rattle.image_contents.specs.declared.lines.line.Line.{Line}
use Rattle.image_contents.specs.Lines.Printed.{line_text, lines_text}

-- what was written was printed, however its parts were put together
pub printed : {E : Type 0} {parts : List ℕ} (print_result : Result (Unit {0}) E) (a b : Option (List ℕ)) (text : List ℕ)
    → OnOk print_result (Appends a b parts) → parts ≡ text → OnOk print_result (Appends a b text)
printed (Ok done) a b text is same = subst (Appends a b) same is
printed (Err error) a b text is same = tt

module _ (lines : List Line) (index : ℕ) where
  -- one line more
  pub one_printed : (d : Line) (a b c : Option (List ℕ)) → index < length lines
      → Appends a b (lines_text (take index lines)) → Appends b c (line_text (get_or lines index d))
      → Appends a c (lines_text (take (index + 1) lines))
  one_printed d a b c less before more =
      subst (Appends a c) (sym text)
      (Appends-trans a b c (lines_text (take index lines)) (line_text (get_or lines index d)) before more)
    where
      text : lines_text (take (index + 1) lines)
          ≡ lines_text (take index lines) ++ line_text (get_or lines index d)
      text =
          ap lines_text (take_more lines index d less)
          ∙ flat_map-append line_text (take index lines) (get_or lines index d ∷ [])
          ∙ ap (λ l. lines_text (take index lines) ++ l) (append-nil (line_text (get_or lines index d)))

  -- and in the end all of them
  pub all_printed : (a b : Option (List ℕ)) → length lines ≤ index → Appends a b (lines_text (take index lines))
      → Appends a b (lines_text lines)
  all_printed a b past printed =
      subst (λ (l : List Line). Appends a b (lines_text l)) (take_all index lines past) printed
