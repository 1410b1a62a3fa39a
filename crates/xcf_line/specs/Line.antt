-- The lines of a listing that are about the whole file: the canvas's, and a refusal's.
use Rattle.std.specs.Prelude.{ℕ, List, ◌++◌}
use Rattle.xcf_read.specs.declared.ReadAnswer.{ReadAnswer}
use Rattle.xcf_text.specs.Text.{newline, spaced, labelled}
use Rattle.xcf_text.specs.Words.{canvas, base, version, compression, rows, refused_word, at}

unfoldable pub refused_line : ℕ → ℕ → List ℕ
refused_line n p = labelled refused_word n ++ (labelled at p ++ newline)

unfoldable pub canvas_line : ReadAnswer → List ℕ
canvas_line a =
    labelled canvas a.width ++ (spaced a.height ++ (labelled base a.base ++ (labelled version a.version
    ++ (labelled compression a.compression ++ (labelled rows a.rows ++ newline)))))
