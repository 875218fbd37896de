-- What is said of a place, a tile, credits, and what is missing.
use Rattle.std.specs.Prelude.{ℕ, ◌*◌, List, ◌++◌, if◌then◌else◌, ◌==◌, codes}
use Rattle.std.specs.Fmt.{decimal}
use Rattle.channels.specs.declared.Missing.{Missing}
use Rattle.channels.specs.declared.Missing.TheVariants.{Chip, Tile, Receiver}
use Rattle.channels.specs.declared.Misfit.{Misfit}
use Rattle.channels.specs.declared.Misfit.TheVariants.{Tiles, Pages, Lengths, Unacceptable}
use Rattle.form.specs.Texts.{plural}

abbrev pub place : ℕ → ℕ → List ℕ
place tile ep = decimal tile ++ (codes ":" ++ decimal ep)

abbrev pub tile : ℕ → ℕ → List ℕ
tile number running = codes "tile " ++ (decimal number ++ (codes ", activity " ++ decimal running))

-- cur_crd alone says whether there is a limit
abbrev pub credits : ℕ → ℕ → List ℕ
credits cur_crd max_crd = if cur_crd == 63 then codes "unlimited credits"
    else decimal cur_crd ++ (codes " of " ++ (decimal max_crd ++ codes " credits left"))

abbrev pub missing : Missing → List ℕ
missing (Chip n) = codes "no chip " ++ decimal n
missing (Tile n) = codes "no tile " ++ decimal n
missing Receiver = codes "no receive endpoint"

-- why a board cannot be told
abbrev pub misfit : Misfit → List ℕ
misfit (Tiles n) = decimal n ++ codes " tiles are not allowed"
misfit (Pages number pages) = codes "tile " ++ (decimal number ++ (codes " with " ++ (decimal pages ++ codes " pages is not allowed")))
misfit (Lengths tiles words activities) = codes "for " ++ (decimal tiles ++ (codes " tile" ++ (plural tiles ++ (codes " " ++ (decimal (tiles * 192)
    ++ (codes " words and " ++ (decimal tiles ++ (codes " activities are needed, and here are " ++ (decimal words
    ++ (codes " and " ++ decimal activities))))))))))
misfit (Unacceptable p) = codes "the words of endpoint " ++ (place p.tile p.ep ++ codes " are not acceptable")
