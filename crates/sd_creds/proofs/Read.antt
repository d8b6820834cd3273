-- The pieces of the text of a hash.
use Rattle.std.proofs.Common.{◌≡◌, ℕ, ◌+◌, List, ◌++◌, length, codes, Result, Ok, refl, sym, ap, ◌∙◌, append_assoc, replicate, length-append}
use Rattle.std.proofs.lemmas.List.{length-replicate}
use Rattle.base64.specs.Engines.{standard}
use Rattle.base64.specs.Rfc4648.{encode_symbols, unpadded_len, padding_len}
use Rattle.base64.specs.GeneralPurpose.{encode_of, engine_symbols}
use Rattle.base64.proofs.RoundTrip.{length-encode_symbols}
use Rattle.sd_rules.specs.declared.events.Hash.{Hash}
use Rattle.sd_creds.specs.Texts.{IsHash, text_of, IsNoHash}
use Rattle.sd_creds.proofs.Pieces.{same_rest, same_front}

-- how long the base64 of bytes is
encoded_len : (b : List ℕ) → length (encode_of standard b) ≡ unpadded_len (length b) + padding_len (length b)
encoded_len b =
    let padding : List ℕ = replicate (padding_len (length b)) 61 in
    length-append (encode_symbols (engine_symbols standard) b) padding
    ∙ ap (λ (n : ℕ). n + length padding) (length-encode_symbols (engine_symbols standard) b)
    ∙ ap (λ (n : ℕ). unpadded_len (length b) + n) (length-replicate {A = ℕ} (padding_len (length b)) 61)

pub salt_len : (b : List ℕ) → length b ≡ 16 → length (encode_of standard b) ≡ 24
salt_len b e = encoded_len b ∙ ap (λ (n : ℕ). unpadded_len n + padding_len n) e

pub digest_len : (b : List ℕ) → length b ≡ 64 → length (encode_of standard b) ≡ 88
digest_len b e = encoded_len b ∙ ap (λ (n : ℕ). unpadded_len n + padding_len n) e

-- no pieces, no hash
pub no_hash : (text : List ℕ) → ((s g : List ℕ) → length s ≡ 24 → length g ≡ 88 → text ≡ codes "$sd1$" ++ s ++ codes "$" ++ g → ⊥) → IsNoHash text
no_hash text none h is e =
    none (encode_of standard h.salt) (encode_of standard h.digest) (salt_len h.salt is.salt_len) (digest_len h.digest is.digest_len) e

module _ (text s g : List ℕ) (h : Hash) (cut : text ≡ codes "$sd1$" ++ s ++ codes "$" ++ g) (len : length s ≡ 24) (is : IsHash h) (e : text ≡ text_of h) where
  behind : s ++ (codes "$" ++ g) ≡ encode_of standard h.salt ++ (codes "$" ++ encode_of standard h.digest)
  behind =
      same_rest (codes "$sd1$") (s ++ (codes "$" ++ g)) (codes "$sd1$") (encode_of standard h.salt ++ (codes "$" ++ encode_of standard h.digest)) refl
      (ap (λ (l : List ℕ). codes "$sd1$" ++ l) (sym (append_assoc s (codes "$") g)) ∙ sym cut ∙ e ∙ ap (λ (l : List ℕ). codes "$sd1$" ++ l) (append_assoc (encode_of standard h.salt) (codes "$") (encode_of standard h.digest)))

  pub salt_piece : s ≡ encode_of standard h.salt
  salt_piece =
      same_front s (codes "$" ++ g) (encode_of standard h.salt) (codes "$" ++ encode_of standard h.digest) (len ∙ sym (salt_len h.salt is.salt_len)) behind

  pub digest_piece : g ≡ encode_of standard h.digest
  digest_piece =
      same_rest (codes "$") g (codes "$") (encode_of standard h.digest) refl
      (same_rest s (codes "$" ++ g) (encode_of standard h.salt) (codes "$" ++ encode_of standard h.digest) (len ∙ sym (salt_len h.salt is.salt_len)) behind)

pub same_ok : {T E : Type 0} (x y : T) → ◌≡◌ {A = Result T E} (Ok x) (Ok y) → x ≡ y
same_ok x y e = cc

pub same_hash : (s d : List ℕ) (h : Hash) → s ≡ h.salt → d ≡ h.digest → ◌≡◌ {A = Hash} (record { salt = s; digest = d }) h
same_hash s d h e f =
    let salted : ◌≡◌ {A = Hash} (record { salt = s; digest = d }) (record { salt = h.salt; digest = d }) = ap (λ (x : List ℕ). record { salt = x; digest = d }) e in
    let digested : ◌≡◌ {A = Hash} (record { salt = h.salt; digest = d }) (record { salt = h.salt; digest = h.digest }) = ap (λ (x : List ℕ). record { salt = h.salt; digest = x }) f in
    salted ∙ digested
