-- What a program is checked for, the kinds of values, the rules, the frame after an instruction, typings, and what is known of an accepted
-- program.
pub mod Signature
pub mod Kinds
pub mod Operands
pub mod Regions
pub mod Rules
pub mod FrameAfter
pub mod Typing
pub mod Accepted
-- Functions that laws tie to those: the joined frames, and the first refusal as the crates above cite it.
pub mod Joined
pub mod Verdict
pub mod Known
-- Laws on what is typable for more maps, or in another mode.
pub mod MoreAllowed
-- What the verifier's inner functions speak of.
pub mod Numbers
pub mod Pass
pub mod Prepared
