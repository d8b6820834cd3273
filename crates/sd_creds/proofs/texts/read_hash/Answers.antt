use Rattle.std.proofs.Common.{Ok, ap}
use Rattle.sd_rules.specs.declared.events.Hash.{Hash}
use Rattle.sd_creds.proofs.Pieces.{if_err}
use Rattle.sd_creds.proofs.Read.{no_hash, salt_piece, digest_piece, same_ok, same_hash}
use Rattle.sd_creds.proofs.texts.read_hash.Goals as goal

pub returns-in_err-salt-clause-bad : goal.returns-in_err-salt-clause-bad
returns-in_err-salt-clause-bad c = if_err c.from_residual.result _ (no_hash c.args.text.now c.in_err-salt.ensures.bad)

pub returns-in_err-salt-clause-whole : goal.returns-in_err-salt-clause-whole
returns-in_err-salt-clause-whole c = λ h is e. absurd (no_hash c.args.text.now c.in_err-salt.ensures.bad h is e)

pub returns-in_err-salt-2-clause-bad : goal.returns-in_err-salt-2-clause-bad
returns-in_err-salt-2-clause-bad c =
    if_err c.from_residual-in_err-salt-2.result _
    (λ h is e.
    let same = c.in_err-salt-2.ensures.whole h.salt is.salt is.salt_len (salt_piece c.args.text.now c.in_ok-salt.salt.now c.in_ok-salt.digest.now h c.in_ok-salt.ensures.ok.0 c.in_ok-salt.ensures.ok.1 is e) in
    cc same)

pub returns-in_err-salt-2-clause-whole : goal.returns-in_err-salt-2-clause-whole
returns-in_err-salt-2-clause-whole c = λ h is e.
    let same = c.in_err-salt-2.ensures.whole h.salt is.salt is.salt_len (salt_piece c.args.text.now c.in_ok-salt.salt.now c.in_ok-salt.digest.now h c.in_ok-salt.ensures.ok.0 c.in_ok-salt.ensures.ok.1 is e) in
    cc same

pub returns-in_err-digest-clause-bad : goal.returns-in_err-digest-clause-bad
returns-in_err-digest-clause-bad c =
    if_err c.from_residual-in_err-digest.result _
    (λ h is e.
    let same = c.in_err-digest.ensures.whole h.digest is.digest is.digest_len (digest_piece c.args.text.now c.in_ok-salt.salt.now c.in_ok-salt.digest.now h c.in_ok-salt.ensures.ok.0 c.in_ok-salt.ensures.ok.1 is e) in
    cc same)

pub returns-in_err-digest-clause-whole : goal.returns-in_err-digest-clause-whole
returns-in_err-digest-clause-whole c = λ h is e.
    let same = c.in_err-digest.ensures.whole h.digest is.digest is.digest_len (digest_piece c.args.text.now c.in_ok-salt.salt.now c.in_ok-salt.digest.now h c.in_ok-salt.ensures.ok.0 c.in_ok-salt.ensures.ok.1 is e) in
    cc same

pub returns-clause-whole : goal.returns-clause-whole
returns-clause-whole c = λ h is e.
    let salts = c.in_ok-salt-2.ensures.whole h.salt is.salt is.salt_len (salt_piece c.args.text.now c.in_ok-salt.salt.now c.in_ok-salt.digest.now h c.in_ok-salt.ensures.ok.0 c.in_ok-salt.ensures.ok.1 is e) in
    let digests = c.in_ok-digest.ensures.whole h.digest is.digest is.digest_len (digest_piece c.args.text.now c.in_ok-salt.salt.now c.in_ok-salt.digest.now h c.in_ok-salt.ensures.ok.0 c.in_ok-salt.ensures.ok.1 is e) in
    ap (λ (x : Hash). Ok x)
    (same_hash c.in_ok-salt-2.salt c.in_ok-digest.digest h (same_ok c.in_ok-salt-2.salt h.salt salts) (same_ok c.in_ok-digest.digest h.digest digests))
