-- Which names lead out of a folder (this project's own): one that is empty or begins with `/`, and one that has a part `..`, where
-- parts stand between slashes. It is read byte by byte, with what the part is so far.
use Rattle.std.specs.Prelude.{ℕ, List, [], ◌∷◌, Bool, true, false, nat_eq, ◌&&◌, ◌||◌, if◌then◌else◌}
use Rattle.ps_library.specs.declared.folder_library.Part.{Part}
use Rattle.ps_library.specs.declared.folder_library.Part.TheVariants as parts

abbrev pub is_dots : Part → Bool
is_dots parts.Start = false
is_dots parts.Dot = false
is_dots parts.Dots = true
is_dots parts.Other = false

-- one dot more
abbrev pub more_dots : Part → Part
more_dots parts.Start = parts.Dot
more_dots parts.Dot = parts.Dots
more_dots parts.Dots = parts.Other
more_dots parts.Other = parts.Other

-- one byte more: 47 is `/`, and 46 is `.`
abbrev pub part_after : Part → ℕ → Part
part_after part byte = if nat_eq byte 47 then parts.Start else (if nat_eq byte 46 then more_dots part else parts.Other)

-- a part is `..`, where this is read of the first one already
abbrev pub climbs : Part → List ℕ → Bool
climbs part [] = is_dots part
climbs part (byte ∷ bytes) = (nat_eq byte 47 && is_dots part) || climbs (part_after part byte) bytes

abbrev pub leads_out : List ℕ → Bool
leads_out [] = true
leads_out (first ∷ rest) = nat_eq first 47 || climbs parts.Start (first ∷ rest)
