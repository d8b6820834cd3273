-- What a line says by itself (RFC 2849, in this project's profile).
use Rattle.std.specs.Prelude.{ℕ, Bool, true, false, not, ◌&&◌, ◌||◌, ◌==◌, if◌then◌else◌, List, [], ◌∷◌, Option, Some, None, codes}
use Rattle.std.specs.List.{list_all}
use Rattle.std.specs.Char.{is_ascii_alphanumeric}
use Rattle.std.specs.Result.{result_ok}
use Rattle.base64.specs.Engines.{standard}
use Rattle.base64.specs.GeneralPurpose.{decode_of}
use Rattle.sd_dn.specs.Comparing.{same_text}
use Rattle.sd_ldif.specs.declared.forms.Form.{Form as KeptForm}
use Rattle.sd_pieces.specs.Pieces.{cut_of}
use Rattle.sd_ldif.specs.Lines.{Line}

abbrev pub is_empty : List ℕ → Bool
is_empty [] = true
is_empty (b ∷ bs) = false

-- a letter, a digit, `-` or `.`
abbrev pub is_name_byte : ℕ → Bool
is_name_byte b = (is_ascii_alphanumeric b || b == 45) || b == 46

-- an attribute's name: at least one such byte, and no options
abbrev pub is_name : List ℕ → Bool
is_name [] = false
is_name (b ∷ bs) = is_name_byte b && list_all is_name_byte bs

abbrev pub without_spaces : List ℕ → List ℕ
without_spaces [] = []
without_spaces (b ∷ bs) = if b == 32 then without_spaces bs else b ∷ bs

-- `NAME: TEXT` or `NAME:: BASE64`
pub record Form : Type 0 where
  pub name : List ℕ
  pub is_encoded : Bool
  pub text : List ℕ

abbrev pub form : List ℕ → Bool → List ℕ → Option Form
form name is_encoded text = Some (record { name = name; is_encoded = is_encoded; text = text })

-- behind the first colon: another one before base64, `<` before a URL, which has no form, or else a text; spaces are skipped
abbrev pub form_behind : List ℕ → List ℕ → Option Form
form_behind name [] = form name false []
form_behind name (b ∷ bs) =
    if b == 58 then form name true (without_spaces bs)
    else if b == 60 then None
    else form name false (without_spaces (b ∷ bs))

abbrev pub form_at_colon : List ℕ → Option (List ℕ) → Option Form
form_at_colon name None = None
form_at_colon name (Some behind) = if is_name name then form_behind name behind else None

abbrev pub form_of : List ℕ → Option Form
form_of text = form_at_colon (cut_of 58 text).0 (cut_of 58 text).1

-- the bytes of which a text is the base64, with its padding and no stray bits (RFC 4648 section 4)
unfoldable pub decoded : List ℕ → Option (List ℕ)
decoded text = result_ok (decode_of standard text)

-- the value that is meant, where it is no bad base64
abbrev pub value_of : Form → Option (List ℕ)
value_of f = if f.is_encoded then decoded f.text else Some f.text

-- the first line of a text may be `version: 1`
abbrev pub is_version_form : Option Form → Bool
is_version_form None = false
is_version_form (Some f) = (same_text f.name (codes "version") && not f.is_encoded) && same_text f.text (codes "1")

abbrev pub is_comment : List ℕ → Bool
is_comment [] = false
is_comment (b ∷ bs) = b == 35

-- a comment, or `version: 1` as the first line of the text
abbrev pub is_passed : Line → Bool
is_passed l = is_comment l.text || (l.number == 1 && is_version_form (form_of l.text))

-- ---- what the code keeps

abbrev pub seen_form : KeptForm → Form
seen_form f = record { name = f.name.now; is_encoded = f.is_encoded; text = f.text.now }
