pub mod Adding
pub mod Keys
pub mod Rejections
pub mod OnlySchemaBodies
