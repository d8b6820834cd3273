mod Pieces
mod Letters
mod Decoding
mod Merging
mod Placing
mod Unfolding
mod Grammar
mod LawProofs
