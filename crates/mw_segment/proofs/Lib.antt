pub mod AlongWords
pub mod FirstEnd
pub mod FirstLines
pub mod Going
pub mod OnSegment
pub mod Staying
