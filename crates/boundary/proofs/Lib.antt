-- Laws that several proofs cite.
mod Numbers
