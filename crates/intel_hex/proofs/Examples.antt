-- Worked examples, computed apart from the request's words (tools/oracle/model/hex.py); they hold by computation.
use Rattle.std.specs.Prelude.{ℕ, ◌≡◌, refl, List, [], ◌∷◌, ◌++◌, map}
use Prim.Native.String.{String, [] as end, ◌∷◌ as ◌then◌}
use Prim.Native.Char.{code}
use Rattle.lent.specs.Lists.{one, any, from, joined, total}
use Rattle.intel_hex.specs.declared.HexRefusal.TheVariants.{BadText, WrongSum, OtherType, PastEnd, GivenTwice, NoEndRecord}
use Rattle.intel_hex.specs.Outcome.{made, refused}
use Rattle.intel_hex.specs.Digits.{digit_value, digit_at, byte_at, bytes_at, are_digits, digit}
use Rattle.intel_hex.specs.Record.{ending_at, is_record, line_at, record_at}
use Rattle.intel_hex.specs.Import.{given, any_given, image_of, walk, imported}
use Rattle.intel_hex.specs.Export.{record_line, text_of}

abbrev text : String → List ℕ
text end = []
text (c then rest) = code c ∷ text rest

-- a line with LF
abbrev line : String → List ℕ
line s = text s ++ one 0x0A

-- the end record's line: its ending, its address, and what stands behind it
ends : map imported (line ":00000001FF" ∷ text ":00000001FF" ∷ (text ":00000001FF" ++ 0x0D ∷ one 0x0A) ∷ (line ":00123401B9" ++ text "x") ∷ [])
    ≡ made [] ∷ made [] ∷ made [] ∷ made [] ∷ []
unfolding walk record_at line_at is_record ending_at are_digits bytes_at byte_at digit_at digit_value image_of from total
ends = refl

-- text on its own line behind its last digit; a CR without LF; an empty line; data in it
bad-text : map imported (line ":00000001FFx" ∷ (text ":00000001FF" ++ one 0x0D) ∷ one 0x0A ∷ line ":0100000100FE" ∷ (line ":020000000102FB" ++ one 0x0A) ∷ [])
    ≡ refused BadText ∷ refused BadText ∷ refused BadText ∷ refused BadText ∷ refused BadText ∷ []
unfolding walk record_at line_at is_record ending_at are_digits bytes_at byte_at digit_at digit_value any_given any from total
bad-text = refl

-- the other refusals
faults : map imported (line ":01FFFF00017F" ∷ line ":00000004FC" ∷ line ":02FFFF000102FD" ∷ (line ":0100010005F9" ++ line ":020000000505F4") ∷ line ":020000000102FB" ∷ [] ∷ [])
    ≡ refused WrongSum ∷ refused OtherType ∷ refused PastEnd ∷ refused GivenTwice ∷ refused NoEndRecord ∷ refused NoEndRecord ∷ []
unfolding walk record_at line_at is_record ending_at are_digits bytes_at byte_at digit_at digit_value any_given given any from total
faults = refl

-- small letters, records in any order, a byte that is not given; a record with no bytes; an FFh that is given
images : map imported ((line ":01000300ab51" ++ line ":02000000FF02FD" ++ text ":00000001FF") ∷ (line ":00FFFF0002" ++ line ":01000100FFFF" ++ line ":00000001ff") ∷ [])
    ≡ made (0xFF ∷ 2 ∷ 0xFF ∷ one 0xAB) ∷ made (0xFF ∷ one 0xFF) ∷ []
unfolding walk record_at line_at is_record ending_at are_digits bytes_at byte_at digit_at digit_value any_given given any image_of from total
images = refl

-- an image of 18 bytes, and none, as text
texts : map text_of (from 0 18 ∷ [] ∷ [])
    ≡ (line ":10000000000102030405060708090A0B0C0D0E0F78" ++ line ":020010001011CD" ++ line ":00000001FF") ∷ line ":00000001FF" ∷ []
unfolding text_of record_line joined from total digit
texts = refl
