mod Reading
mod Proved
mod Ignoring
mod Pressable
